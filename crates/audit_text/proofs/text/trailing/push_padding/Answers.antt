use Rattle.std.proofs.Common.{append_assoc}
use Rattle.std.proofs.lemmas.Bool.{ne_eqb}
use Rattle.audit_text.specs.text.Trailing.{padding_line}
use Rattle.audit_text.proofs.text.trailing.push_padding.Goals as goal

pub returns : goal.returns
unfolding padding_line
returns g c = rw (ne_eqb c.args.trailing.now.padding 0 c.if-count-eq0.false) (simp append_assoc c.writeln.ensures.bytes)
