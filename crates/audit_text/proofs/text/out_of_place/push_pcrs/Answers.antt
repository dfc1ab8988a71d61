use Rattle.std.proofs.Common.{append_assoc}
use Rattle.audit_text.specs.text.OutOfPlace.{unseparated_from}
use Rattle.audit_text.proofs.text.out_of_place.push_pcrs.Goals as goal

pub returns : goal.returns
unfolding unseparated_from
returns g c = simp (append_assoc, c.in_ok-push_others.ensures, c.in_ok-write.ensures.bytes) at c.writeln.ensures.bytes
