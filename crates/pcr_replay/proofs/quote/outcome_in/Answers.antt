use Rattle.std.proofs.Common.{◌∙◌, List, ap, rules}
use Rattle.std.specs.Prelude.{slice_get}
use Rattle.std.specs.Option.{option_and_then}
use Rattle.pcr_replay.specs.Replay.{Outcome}
use Rattle.pcr_replay.proofs.Quoting.{its_algorithm, no_bank_left, other_algorithm}
use Rattle.pcr_replay.proofs.quote.outcome_in.Goals as goal

pub returns-then-eq : goal.returns-then-eq
returns-then-eq g c =
    c.outcome.ensures.outcome
    ∙ ap (option_and_then (λ (outcomes : List Outcome). slice_get outcomes c.args.pcr.0))
    (its_algorithm g.B.BankStore.holds c.args.banks.now c.args.algorithm.0 c.loop-found.found-index c.found-item.result _ c.loop-found-test.true
    c.found-item.is (search rules) c.loop-found.invariant)

pub loop-found-preserved : goal.loop-found-preserved
loop-found-preserved g c =
    other_algorithm g.B.BankStore.holds c.args.banks.now c.args.algorithm.0 c.loop-found.found-index c.found-item.result _ c.loop-found-test.true
    c.found-item.is (search rules) c.loop-found.invariant

pub returns : goal.returns
returns g c =
    ap (option_and_then (λ (outcomes : List Outcome). slice_get outcomes c.args.pcr.0))
    (no_bank_left g.B.BankStore.holds c.args.banks.now c.args.algorithm.0 c.loop-found.found-index _ c.loop-found-test.false
    c.loop-found.invariant)
