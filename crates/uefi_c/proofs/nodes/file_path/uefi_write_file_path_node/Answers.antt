use Rattle.std.proofs.Common.{refl}
use Rattle.uefi_c.proofs.nodes.file_path.uefi_write_file_path_node.Goals as goal

pub returns-clause-too_long : goal.returns-clause-too_long
returns-clause-too_long c =
    let long = c.write_parts-status.ensures.long in
    (λ so. (c.if-not-are_units.ensures.0 refl, long.0 so), λ both. long.1 both.1)
