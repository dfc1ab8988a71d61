use Rattle.std.proofs.Common.{◌≡◌, ◌++◌, length, string_bytes, None}
use Rattle.std.specs.Option.{option_map}
use Rattle.audit_text.specs.text.Agreement.{ranges_after}
use Rattle.audit_text.proofs.text.agreement.push_ranges.Given as goal

-- The text so far and that of the rest are those of all.
abbrev pub invariant-loop-rest : goal.invariant-loop-rest
invariant-loop-rest g l =
    string_bytes l.text ++ ranges_after (option_map (λ it. it.now) l.before) l.rest
    ≡ string_bytes l.initial.text ++ ranges_after None l.pcrs

abbrev pub decreases-loop-rest : goal.decreases-loop-rest
decreases-loop-rest g l = length l.rest
