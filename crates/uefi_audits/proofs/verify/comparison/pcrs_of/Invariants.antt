use Rattle.std.proofs.Common.{◌≡◌, drop, map}
use Rattle.pcr_replay.specs.BankReplays.{bank_outcomes_of}
use Rattle.uefi_audits.specs.verify.Verdict.{outcomes_in}
use Rattle.uefi_audits.proofs.verify.comparison.pcrs_of.Given as goal

-- None of those before is of the bank.
abbrev pub invariant-loop-found : goal.invariant-loop-found
invariant-loop-found l =
    outcomes_in (map bank_outcomes_of (drop l.found-index l.replays)) l.bank
    ≡ outcomes_in (map bank_outcomes_of l.replays) l.bank
