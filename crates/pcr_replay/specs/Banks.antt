-- The banks of PCRs: those whose hash functions are proved here (TCG Algorithm Registry, `TPM_ALG_ID`; FIPS 180-4; GB/T 32905-2016).
use Rattle.std.specs.Prelude.{ℕ, ◌==◌, List, [], ◌∷◌, Option, None, Some, if◌then◌else◌}
use Rattle.sha1.specs.Sha1.{sha1}
use Rattle.sha2.specs.Sha256.{sha256}
use Rattle.sha2.specs.Sha512.{sha384, sha512}
use Rattle.sm3.specs.Sm3.{sm3}
use Rattle.pcr_replay.specs.declared.bank.Bank.{Bank}
use Rattle.pcr_replay.specs.declared.bank.Bank.TheVariants.{Sha1, Sha256, Sha384, Sha512, Sm3}

-- All banks that can be replayed, in the order of their algorithms' numbers.
abbrev pub all_banks : List Bank
all_banks = Sha1 ∷ Sha256 ∷ Sha384 ∷ Sha512 ∷ Sm3 ∷ []

-- The number of a bank's algorithm.
abbrev pub algorithm_of : Bank → ℕ
algorithm_of Sha1 = 0x04
algorithm_of Sha256 = 0x0b
algorithm_of Sha384 = 0x0c
algorithm_of Sha512 = 0x0d
algorithm_of Sm3 = 0x12

-- How many bytes a digest has, and so a PCR.
abbrev pub size_of : Bank → ℕ
size_of Sha1 = 20
size_of Sha256 = 32
size_of Sha384 = 48
size_of Sha512 = 64
size_of Sm3 = 32

-- The first bank, by their algorithms' numbers, whose digests have this many bytes.
unfoldable pub bank_of_size : ℕ → Option Bank
bank_of_size size =
    if size == 20 then Some Sha1 else if size == 32 then Some Sha256 else if size == 48 then Some Sha384
    else if size == 64 then Some Sha512 else None

-- The hash function.
abbrev pub hash_of : Bank → List ℕ → List ℕ
hash_of Sha1 bytes = sha1 bytes
hash_of Sha256 bytes = sha256 bytes
hash_of Sha384 bytes = sha384 bytes
hash_of Sha512 bytes = sha512 bytes
hash_of Sm3 bytes = sm3 bytes
