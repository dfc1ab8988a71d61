use Rattle.std.proofs.Common.{append_assoc}
use Rattle.uefi_listing.specs.Info.{refused_info_line}
use Rattle.uefi_listing.proofs.info.push_refusal.Goals as goal

pub returns-in-Some : goal.returns-in-Some
unfolding refused_info_line
returns-in-Some g c = rw (← c.data.ensures, c.in-Some.is) (simp append_assoc c.writeln.ensures.bytes)

pub returns-in-None : goal.returns-in-None
unfolding refused_info_line
returns-in-None g c = rw (← c.data.ensures, c.in-None.is) c.writeln-in-None.ensures.bytes
