use Rattle.std.proofs.Common.{◌≡◌, ◌-◌}
use Rattle.tpm_quote.specs.private.Reading.{after_selections}
use Rattle.tpm_quote.proofs.pcr_selection_iter.after_selections.Given as goal

-- What follows the selections that are left is what follows all.
abbrev pub invariant-loop : goal.invariant-loop
invariant-loop l = after_selections (l.count - l.counter) l.rest ≡ after_selections l.count l.bytes
