use Rattle.audit_text.specs.text.Quote.{clock_text}
use Rattle.audit_text.proofs.text.quote.push_clock.Goals as goal

pub returns : goal.returns
unfolding clock_text
returns g c = simp c.safe_text-safe.ensures at c.writeln.ensures.bytes
