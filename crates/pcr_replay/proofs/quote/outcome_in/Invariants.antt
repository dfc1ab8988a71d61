use Rattle.std.proofs.Common.{◌≡◌, drop, map}
use Rattle.pcr_replay.specs.Quotes.{outcomes_of_algorithm}
use Rattle.pcr_replay.proofs.quote.outcome_in.Given as goal

-- None of those before is of the algorithm.
abbrev pub invariant-loop-found : goal.invariant-loop-found
invariant-loop-found g l =
    outcomes_of_algorithm l.algorithm.0 (map g.B.BankStore.holds (drop l.found-index l.banks))
    ≡ outcomes_of_algorithm l.algorithm.0 (map g.B.BankStore.holds l.banks)
