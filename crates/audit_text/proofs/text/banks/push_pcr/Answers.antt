use Rattle.std.proofs.Common.{append_assoc}
use Rattle.audit_text.specs.text.Pcrs.{pcr_line}
use Rattle.audit_text.proofs.text.banks.push_pcr.Goals as goal

pub returns-in-Err : goal.returns-in-Err
unfolding pcr_line
returns-in-Err g c = rw c.in-Err.is (simp append_assoc (simp c.padding-gap.ensures at c.writeln-in-Err.ensures.bytes))
