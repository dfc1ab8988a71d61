-- The names of banks, as tpm2-tools has them, and the banks of algorithms.
use Rattle.std.specs.Prelude.{ℕ, ◌==◌, List, codes, Option, None, Some, if◌then◌else◌}
use Rattle.pcr_replay.specs.declared.bank.Bank.{Bank}
use Rattle.pcr_replay.specs.declared.bank.Bank.TheVariants.{Sha1, Sha256, Sha384, Sha512, Sm3}

abbrev pub bank_name : Bank → List ℕ
bank_name Sha1 = codes "sha1"
bank_name Sha256 = codes "sha256"
bank_name Sha384 = codes "sha384"
bank_name Sha512 = codes "sha512"
bank_name Sm3 = codes "sm3_256"

-- The bank of an algorithm's number, if its PCRs can be replayed.
unfoldable pub bank_of : ℕ → Option Bank
bank_of algorithm =
    if algorithm == 0x04 then Some Sha1
    else if algorithm == 0x0b then Some Sha256
    else if algorithm == 0x0c then Some Sha384
    else if algorithm == 0x0d then Some Sha512
    else if algorithm == 0x12 then Some Sm3
    else None
