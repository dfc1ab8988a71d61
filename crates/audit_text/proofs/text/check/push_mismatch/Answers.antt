use Rattle.std.proofs.Common.{append_assoc}
use Rattle.audit_text.specs.text.Check.{mismatch_line}
use Rattle.audit_text.proofs.text.check.push_mismatch.Goals as goal

pub returns : goal.returns
unfolding mismatch_line
returns g c =
    simp (c.in_ok-push_type.ensures, c.in_ok-write.ensures.bytes, c.event_type.ensures, c.pcr_index-pcr.ensures, append_assoc) at
    c.writeln.ensures.bytes
