-- What the events of a log lead to, with what is to be said of it.
use Rattle.std.specs.Prelude.{ℕ, ◌≡◌, ◌==◌, ◌||◌, not, Bool, List, [], ◌∷◌, length, map, Option, None, Some, is_none}
use Rattle.std.specs.List.{filter, list_any}
use Rattle.uefi_tcg.specs.Entries.{Entry}
use Rattle.pcr_replay.specs.Banks.{algorithm_of, all_banks}
use Rattle.pcr_replay.specs.BankReplays.{bank_outcomes_of, has_undetermined, replayed}
use Rattle.pcr_replay.specs.Replay.{is_active}
use Rattle.pcr_replay.specs.declared.bank.Bank.{Bank}
use Rattle.uefi_audits.specs.Ignored.{ignored_events}
use Rattle.uefi_audits.specs.Naming.{bank_of}
use Rattle.uefi_audits.specs.Replay.{asked}
use Rattle.uefi_audits.specs.declared.facts.LogFacts.{LogFacts}
use Rattle.uefi_audits.specs.declared.log_replay.LogReplay.{LogReplay}

-- Those of some banks of which no event has a digest.
abbrev pub inactive_banks : List Entry → List Bank → List Bank
inactive_banks entries banks = filter (λ bank. not (is_active bank entries)) banks

-- The banks of some algorithms that can be replayed, and the algorithms whose banks can't.
abbrev pub banks_among : List ℕ → List Bank
banks_among algorithms = filter (λ bank. list_any (λ algorithm. algorithm == algorithm_of bank) algorithms) all_banks

abbrev pub unsupported_among : List ℕ → List ℕ
unsupported_among algorithms = filter (λ algorithm. is_none (bank_of algorithm)) algorithms

-- Those that are looked at: the one bank that is asked for, or all in the table.
unfoldable pub noted_banks : Option Bank → List ℕ → List Bank
noted_banks (Some bank) algorithms = bank ∷ []
noted_banks None algorithms = banks_among algorithms

unfoldable pub unsupported_for : Option Bank → List ℕ → List ℕ
unsupported_for (Some bank) algorithms = []
unsupported_for None algorithms = unsupported_among algorithms

-- The events lead to this in the banks that are asked for.
pub record IsReplayOf (facts : LogFacts) (bank : Option Bank) (entries : List Entry) (replay : LogReplay) : Type 0 where
  pub banks : map bank_outcomes_of replay.banks.items ≡ map (replayed facts.start.start entries) (asked bank entries)
  pub inactive : replay.inactive.items ≡ inactive_banks entries (noted_banks bank facts.algorithms.items)
  pub unsupported : replay.unsupported.items ≡ unsupported_for bank facts.algorithms.items
  pub ignored : replay.ignored.items ≡ ignored_events entries

-- No bank was replayed, or a PCR of one is undetermined.
abbrev pub is_undetermined : LogReplay → Bool
is_undetermined replay =
    (length replay.banks.items == 0) || list_any (λ bank. has_undetermined (bank_outcomes_of bank)) replay.banks.items
