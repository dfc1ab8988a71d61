use Rattle.std.proofs.Common.{map}
use Rattle.tpm_quote.specs.Views.{pcrs_left}
use Rattle.pcr_replay.proofs.Quoting.{TakenSo}
use Rattle.pcr_replay.proofs.quote.take_selection.Given as goal

-- The values so far were taken.
abbrev pub invariant-loop-pcr : goal.invariant-loop-pcr
invariant-loop-pcr g l =
    TakenSo (map g.B.BankStore.holds l.banks)
    (map (λ pcr. (l.algorithm.0, pcr)) (pcrs_left l.initial.pcr-iterator))
    (map (λ pcr. (l.algorithm.0, pcr)) (pcrs_left l.pcr-iterator))
    l.initial.hasher l.hasher
