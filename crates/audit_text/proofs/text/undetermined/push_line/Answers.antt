use Rattle.std.proofs.Common.{append_assoc}
use Rattle.audit_text.specs.text.Undetermined.{undetermined_line}
use Rattle.audit_text.proofs.text.undetermined.push_line.Goals as goal

pub returns : goal.returns
unfolding undetermined_line
returns g c = simp append_assoc (simp c.bank_name-bank.ensures at c.writeln.ensures.bytes)
