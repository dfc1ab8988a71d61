use Rattle.std.proofs.Common.{◌∙◌}
use Rattle.uefi_path.proofs.Nodes.{stated_prefix}
use Rattle.uefi_path.proofs.walk.first_node.Goals as goal

pub new_unchecked-requires : goal.new_unchecked-requires
new_unchecked-requires c =
    rw c.split_at.ensures.front (stated_prefix c.args.bytes.now c.from-length.result c.requires
    (c.from-length.ensures ∙ c.u16_at.ensures))
