use Rattle.std.proofs.Common.{◌≡◌, ◌-◌, ◌^◌, map, take}
use Rattle.tpm_quote.specs.Quote.{Quote}
use Rattle.uefi_c.specs.Quote.{AreQuote, selection_given, selection_seen}
use Rattle.uefi_c.proofs.callers.selections.selections_by_steps.Given as goal

-- Those before the cursor were seen.
abbrev pub invariant-loop-selection : goal.invariant-loop-selection
invariant-loop-selection g l =
    (quote : Quote) → AreQuote l.message quote
    → map selection_seen l.views.items ≡ map selection_given (take l.cursor quote.pcr_selections)

abbrev pub decreases-loop-selection : goal.decreases-loop-selection
decreases-loop-selection g l = 2 ^ 32 - l.cursor
