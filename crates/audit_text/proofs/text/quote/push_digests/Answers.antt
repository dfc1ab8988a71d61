use Rattle.audit_text.specs.text.Quote.{digests_text}
use Rattle.audit_text.proofs.text.quote.push_digests.Goals as goal

pub returns : goal.returns
unfolding digests_text
returns g c = simp (c.in_ok-quoted.ensures, c.in_ok-found.ensures) at c.writeln.ensures.bytes
