-- What a hash function was given of a quote's PCRs.
use Rattle.std.specs.Prelude.{ℕ, ◌≡◌, List, ◌++◌, Ok}
use Rattle.pcr_replay.specs.BankReplays.{BankOutcomes}
use Rattle.pcr_replay.specs.private.Hashers.{Holds}
use Rattle.pcr_replay.specs.Quotes.{quoted_values}
use Rattle.pcr_replay.specs.declared.bank.Bank.{Bank}
use Rattle.pcr_replay.specs.declared.hasher.Hasher.{Hasher}

-- It was given these bytes.
abbrev pub Takes : List ℕ → Hasher → Hasher → Type 0
Takes bytes old new = (bank : Bank) (message : List ℕ) → Holds bank old message → Holds bank new (message ++ bytes)

-- It was given the values of these PCRs, each of which has one.
pub record TakesValues (banks : List BankOutcomes) (pcrs : List (ℕ × ℕ)) (old new : Hasher) : Type 0 where
  pub values : List ℕ
  pub are : quoted_values banks pcrs ≡ Ok values
  pub taken : Takes values old new
