use Rattle.std.proofs.Common.{append_assoc}
use Rattle.uefi_listing.specs.Map.{entry_line}
use Rattle.uefi_listing.proofs.map.push_entry.Goals as goal

pub returns : goal.returns
unfolding entry_line
returns g c = simp append_assoc (simp c.bits.ensures at c.writeln.ensures.bytes)
