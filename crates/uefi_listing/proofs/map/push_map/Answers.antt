use Rattle.std.proofs.Common.{append_assoc}
use Rattle.uefi_listing.specs.Map.{map_lines}
use Rattle.uefi_listing.proofs.map.push_map.Goals as goal

pub returns : goal.returns
unfolding map_lines
returns g c = (
  c.is_sorted.result,
  c.is_sorted.ensures,
  simp append_assoc (simp (
    c.yes_or_no-sorted.ensures,
    c.len-count.ensures.value,
    c.entries.ensures.entries,
    c.in_ok-push_entries.ensures,
    append_assoc,
  ) at c.in_ok-writeln.ensures.bytes),
)
