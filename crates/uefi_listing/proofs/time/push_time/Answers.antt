use Rattle.std.proofs.Common.{append_assoc}
use Rattle.uefi_listing.specs.Time.{time_line}
use Rattle.uefi_listing.proofs.time.push_time.Goals as goal

pub returns : goal.returns
unfolding time_line
returns g c = simp append_assoc (simp (c.bits-daylight.ensures, c.daylight.ensures) at c.writeln.ensures.bytes)
