use Rattle.std.proofs.Common.{take}
use Rattle.uefi_tcg.specs.LogViews.{event_of}
use Rattle.uefi_audits.specs.Check.{MatchesNoneOf}
use Rattle.uefi_audits.proofs.check.first_match.Given as goal

-- None of the forms so far matches.
abbrev pub invariant-loop-form : goal.invariant-loop-form
invariant-loop-form g l = MatchesNoneOf (event_of l.event) (take l.form-index l.forms)
