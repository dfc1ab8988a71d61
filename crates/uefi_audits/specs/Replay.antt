-- The PCRs that a log leads to, by bank.
use Rattle.std.specs.Prelude.{List, [], ◌∷◌, Option, None, Some}
use Rattle.std.specs.List.{filter}
use Rattle.pcr_replay.specs.declared.bank.Bank.{Bank}
use Rattle.uefi_tcg.specs.Entries.{Entry}
use Rattle.pcr_replay.specs.Banks.{all_banks}
use Rattle.pcr_replay.specs.Replay.{is_active}

-- Those that are active in a log.
abbrev pub active_banks : List Entry → List Bank
active_banks entries = filter (λ bank. is_active bank entries) all_banks

-- The banks that are asked for: one, or each that is active.
unfoldable pub asked : Option Bank → List Entry → List Bank
asked (Some bank) entries = bank ∷ []
asked None entries = active_banks entries
