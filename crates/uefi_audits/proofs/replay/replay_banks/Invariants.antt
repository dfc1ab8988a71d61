use Rattle.std.proofs.Common.{◌≡◌, map, take}
use Rattle.uefi_tcg.specs.LogViews.{entry_of}
use Rattle.pcr_replay.specs.BankReplays.{bank_outcomes_of, replayed}
use Rattle.uefi_audits.proofs.replay.replay_banks.Given as goal

-- What was found is what the banks so far hold.
abbrev pub invariant-loop-bank : goal.invariant-loop-bank
invariant-loop-bank g l =
    map bank_outcomes_of l.found.items ≡ map (replayed l.start (map entry_of l.entries)) (take l.bank-index l.banks)
