use Rattle.std.proofs.Common.{append_assoc}
use Rattle.boot_listing.specs.List.{current_option}
use Rattle.boot_listing.proofs.list.push_current_option.Goals as goal

pub returns-in-Lines : goal.returns-in-Lines
unfolding current_option
returns-in-Lines g c = rw c.in-Lines.is (simp append_assoc c.writeln.ensures.bytes)

pub returns-in-Json : goal.returns-in-Json
unfolding current_option
returns-in-Json g c = rw c.in-Json.is (simp append_assoc c.writeln-in-Json.ensures.bytes)
