use Rattle.std.proofs.Common.{arith, ◌∙◌, sym}
use Rattle.uefi_c.proofs.FilePathNodes.{units_found}
use Rattle.uefi_c.proofs.nodes.file_path.are_units.Goals as goal

pub returns : goal.returns
returns c =
    let found = units_found c.args.bytes.now c.try_new.result (λ i. omega (arith, c.type_inv.bytes i))
    c.try_new.ensures.units c.try_new.ensures.even in
    (λ some. found.0 (sym c.is_some.ensures ∙ some), λ of. c.is_some.ensures ∙ found.1 of)
