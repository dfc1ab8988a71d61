use Rattle.std.proofs.Common.{append_assoc}
use Rattle.audit_text.specs.text.Remarks.{start_lines}
use Rattle.audit_text.proofs.text.start.push_start.Goals as goal

pub returns : goal.returns
unfolding start_lines
returns g c = rw c.if-known.false (simp append_assoc c.writeln.ensures.bytes)
