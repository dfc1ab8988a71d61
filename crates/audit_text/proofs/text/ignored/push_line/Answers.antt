use Rattle.std.proofs.Common.{append_assoc}
use Rattle.audit_text.specs.text.Remarks.{ignored_line, ignored_text}
use Rattle.audit_text.proofs.text.ignored.push_line.Goals as goal

pub returns-in-NoPcr : goal.returns-in-NoPcr
unfolding ignored_line ignored_text
returns-in-NoPcr g c = rw c.in-NoPcr.is (simp append_assoc c.writeln.ensures.bytes)

pub returns-in-OtherPcr : goal.returns-in-OtherPcr
unfolding ignored_line ignored_text
returns-in-OtherPcr g c = rw c.in-OtherPcr.is (simp append_assoc c.writeln-in-OtherPcr.ensures.bytes)
