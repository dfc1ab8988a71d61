use Rattle.std.proofs.Common.{append_assoc}
use Rattle.boot_listing.specs.Refusal.{refusal_line}
use Rattle.boot_listing.proofs.refusal.push_refusal.Goals as goal

pub returns-in-Lines : goal.returns-in-Lines
unfolding refusal_line
returns-in-Lines g c = rw c.in-Lines.is c.writeln.ensures.bytes

pub returns-in-Json : goal.returns-in-Json
unfolding refusal_line
returns-in-Json g c = rw c.in-Json.is (simp append_assoc c.writeln-in-Json.ensures.bytes)
