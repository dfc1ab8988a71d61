use Rattle.std.proofs.Common.{append_assoc}
use Rattle.boot_listing.specs.Path.{bytes_line}
use Rattle.boot_listing.proofs.path.push_bytes.Goals as goal

pub returns-in-Lines : goal.returns-in-Lines
unfolding bytes_line
returns-in-Lines g c = rw c.in-Lines.is c.writeln.ensures.bytes

pub returns-in-Json : goal.returns-in-Json
unfolding bytes_line
returns-in-Json g c = rw c.in-Json.is (simp append_assoc c.writeln-in-Json.ensures.bytes)
