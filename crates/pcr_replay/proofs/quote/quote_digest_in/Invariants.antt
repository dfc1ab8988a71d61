use Rattle.std.proofs.Common.{map}
use Rattle.tpm_quote.specs.Views.{selections_left}
use Rattle.pcr_replay.specs.Quotes.{quoted_pcrs}
use Rattle.pcr_replay.proofs.Quoting.{TakenSo}
use Rattle.pcr_replay.proofs.quote.quote_digest_in.Given as goal

-- The values so far were taken.
abbrev pub invariant-loop-selection : goal.invariant-loop-selection
invariant-loop-selection g l =
    TakenSo (map g.B.BankStore.holds l.banks) (quoted_pcrs (selections_left l.initial.selection-iterator))
    (quoted_pcrs (selections_left l.selection-iterator)) l.initial.hasher l.hasher
