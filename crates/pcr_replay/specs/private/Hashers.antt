-- Hash functions over bytes that they are given in parts.
use Rattle.std.specs.Prelude.{ℕ, List}
use Rattle.sha1.specs.Sha1 as sha1
use Rattle.sha2.specs.Hashers.{Holds256, Holds384, Holds512}
use Rattle.sm3.specs.Hasher as sm3
use Rattle.pcr_replay.specs.declared.bank.Bank.{Bank}
use Rattle.pcr_replay.specs.declared.bank.Bank.TheVariants as banks
use Rattle.pcr_replay.specs.declared.hasher.Hasher.{Hasher}
use Rattle.pcr_replay.specs.declared.hasher.Hasher.TheVariants.{Sha1, Sha256, Sha384, Sha512, Sm3}

-- It is the bank's, and was given this message.
abbrev pub Holds : Bank → Hasher → List ℕ → Type 0
Holds banks.Sha1 (Sha1 it) message = sha1.Holds it message
Holds banks.Sha256 (Sha256 it) message = Holds256 it message
Holds banks.Sha384 (Sha384 it) message = Holds384 it message
Holds banks.Sha512 (Sha512 it) message = Holds512 it message
Holds banks.Sm3 (Sm3 it) message = sm3.Holds it message
Holds bank it message = ⊥
