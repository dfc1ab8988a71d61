use Rattle.std.proofs.Common.{append_assoc}
use Rattle.boot_listing.specs.List.{state_lines}
use Rattle.boot_listing.proofs.list.push_state.Goals as goal

pub returns : goal.returns
unfolding state_lines
returns g c = simp append_assoc (simp (c.from.ensures, c.bits.ensures, c.state_of-state.ensures) at c.writeln.ensures.bytes)
