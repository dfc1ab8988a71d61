-- What memory of a caller's keeps of the PCRs of a bank (`pcr_replay`).
use Rattle.std.specs.Prelude.{ℕ, ◌==◌, map, if◌then◌else◌}
use Rattle.pcr_replay.specs.Banks.{algorithm_of}
use Rattle.pcr_replay.specs.BankReplays.{BankOutcomes}
use Rattle.pcr_replay.specs.declared.bank.Bank.{Bank}
use Rattle.pcr_replay.specs.declared.bank.Bank.TheVariants.{Sha1, Sha256, Sha384, Sha512, Sm3}
use Rattle.uefi_c.specs.Replay.{outcome_seen}
use Rattle.uefi_c.specs.declared.workspace.UefiBank.{UefiBank}

-- The bank of an algorithm; of a number without one SHA-1's.
abbrev pub bank_given : ℕ → Bank
bank_given algorithm =
    if algorithm == algorithm_of Sha256 then Sha256
    else if algorithm == algorithm_of Sha384 then Sha384
    else if algorithm == algorithm_of Sha512 then Sha512
    else if algorithm == algorithm_of Sm3 then Sm3
    else Sha1

abbrev pub bank_seen : UefiBank → BankOutcomes
bank_seen seen = record { bank = bank_given seen.algorithm; outcomes = map outcome_seen seen.pcrs }
