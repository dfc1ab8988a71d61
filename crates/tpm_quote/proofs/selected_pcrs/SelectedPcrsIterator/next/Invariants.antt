use Rattle.std.proofs.Common.{◌≡◌, ◌-◌}
use Rattle.tpm_quote.specs.Views.{pcrs_left}
use Rattle.tpm_quote.proofs.selected_pcrs.SelectedPcrsIterator.next.Given as goal

-- The PCRs that are left are those that were left.
abbrev pub invariant-loop-self : goal.invariant-loop-self
invariant-loop-self l = pcrs_left l.self ≡ pcrs_left l.initial.self

abbrev pub decreases-loop-self : goal.decreases-loop-self
decreases-loop-self l = 24 - l.self.next
