use Rattle.std.proofs.Common.{append_assoc}
use Rattle.uefi_listing.specs.Path.{node_line}
use Rattle.uefi_listing.proofs.path.push_node.Goals as goal

pub returns : goal.returns
unfolding node_line
returns g c = simp append_assoc (simp (
  c.full_type.ensures.device_type,
  c.full_type.ensures.sub_type,
  c.data.ensures,
  c.data-2.ensures,
  c.gap_before-gap.ensures,
) at c.writeln.ensures.bytes)
