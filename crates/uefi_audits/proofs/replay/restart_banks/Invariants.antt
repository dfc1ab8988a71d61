use Rattle.std.proofs.Common.{◌≡◌, List, map, take}
use Rattle.pcr_replay.specs.declared.bank.Bank.{Bank}
use Rattle.pcr_replay.specs.declared.start.Start.{Start}
use Rattle.uefi_tcg.specs.LogViews.{entry_of}
use Rattle.pcr_replay.specs.BankReplays.{bank_outcomes_of, replayed}
use Rattle.uefi_audits.proofs.replay.restart_banks.Given as goal

-- What was found is what the banks so far hold.
abbrev pub invariant-loop-replay : goal.invariant-loop-replay
invariant-loop-replay g l = (other : Start) (banks : List Bank)
    → map bank_outcomes_of l.replays ≡ map (replayed other (map entry_of l.entries)) banks
    → map bank_outcomes_of l.found.items ≡ map (replayed l.start (map entry_of l.entries)) (take l.replay-index banks)
