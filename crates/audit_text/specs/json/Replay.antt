-- What `uefi_audit replay --json` prints of a log: an object with the PCRs that it leads to, by banks.
use Rattle.std.specs.Prelude.{ℕ, ◌==◌, not, Bool, List, [], ◌∷◌, map, codes, Ok, Err, Option, None, Some, if◌then◌else◌}
use Rattle.std.specs.List.{filter, list_any}
use Rattle.hex.specs.Hex.{encode_lower}
use Rattle.audit_text.specs.json.Json.{Json, null, boolean, number, string, array, object}
use Rattle.pcr_replay.specs.Banks.{algorithm_of}
use Rattle.pcr_replay.specs.declared.bank.Bank.{Bank}
use Rattle.pcr_replay.specs.declared.fault.Undetermined.{Undetermined}
use Rattle.uefi_audits.specs.declared.known_start.KnownStart.{KnownStart}
use Rattle.uefi_audits.specs.declared.facts.LogFacts.{LogFacts}
use Rattle.pcr_replay.specs.Replay.{Outcome}
use Rattle.pcr_replay.specs.Texts.{fault_text}
use Rattle.audit_text.specs.words.Numbers.{hex_text}
use Rattle.pcr_replay.specs.BankReplays.{BankOutcomes}
use Rattle.audit_text.specs.json.Line.{json_line}
use Rattle.uefi_audits.specs.Naming.{bank_name, bank_of}
use Rattle.uefi_audits.specs.Numbered.{numbered}

-- A PCR: its value in hex, or `null` if it's undetermined.
abbrev pub outcome_json : Outcome → Json
outcome_json (Ok value) = string (encode_lower value)
outcome_json (Err at) = null

-- The event by which a PCR is undetermined.
unfoldable pub undetermined_json : ℕ → Undetermined → Json
undetermined_json pcr at =
    object (
    (codes "index", number at.index)
    ∷ (codes "offset", number at.offset)
    ∷ (codes "pcr", number pcr)
    ∷ (codes "reason", string (fault_text at.fault)) ∷ [])

-- Nothing for a PCR with a value.
unfoldable pub if_undetermined : ℕ → Outcome → List Json
if_undetermined pcr (Ok value) = []
if_undetermined pcr (Err at) = undetermined_json pcr at ∷ []

-- A bank: the name of its algorithm, its PCRs, and the events by which some are undetermined.
unfoldable pub bank_json : BankOutcomes → Json
bank_json bank =
    object (
    (codes "algorithm", string (bank_name bank.bank))
    ∷ (codes "pcrs", array (map outcome_json bank.outcomes))
    ∷ (codes "undetermined", array (numbered if_undetermined 0 bank.outcomes)) ∷ [])

-- The banks of a log; `null` if it is refused.
unfoldable pub banks_json : Option (List BankOutcomes) → Json
banks_json None = null
banks_json (Some banks) = array (map bank_json banks)

-- The banks that are among them.
abbrev pub shown_banks : Option (List BankOutcomes) → List BankOutcomes
shown_banks None = []
shown_banks (Some banks) = banks

-- One of these banks is an algorithm's.
abbrev pub is_replayed : List BankOutcomes → ℕ → Bool
is_replayed banks algorithm = list_any (λ found. algorithm_of found.bank == algorithm) banks

-- An algorithm: the name of its bank, or its number in hex if that bank can't be replayed.
abbrev pub name_or_hex : Option Bank → ℕ → List ℕ
name_or_hex (Some bank) algorithm = bank_name bank
name_or_hex None algorithm = hex_text algorithm

unfoldable pub algorithm_json : ℕ → Json
algorithm_json algorithm = string (name_or_hex (bank_of algorithm) algorithm)

-- Those of some algorithms whose banks aren't among these.
unfoldable pub not_replayed_json : List ℕ → List BankOutcomes → Json
not_replayed_json algorithms banks =
    array (map algorithm_json (filter (λ algorithm. not (is_replayed banks algorithm)) algorithms))

-- Bytes that begin at an offset: how many they are, and the offset; `null` if there are none.
unfoldable pub part_json : ℕ → ℕ → Json
part_json offset count =
    if count == 0 then null
    else object ((codes "count", number count) ∷ (codes "offset", number offset) ∷ [])

-- The locality at which PCR 0 starts, and whether it is stated.
unfoldable pub locality_json : KnownStart → Json
locality_json known =
    object (
    (codes "number", number known.start.locality)
    ∷ (codes "stated", boolean known.is_stated) ∷ [])

-- The object of a log, by its name, what is known of it, and its banks.
unfoldable pub replay_json : List ℕ → LogFacts → Option (List BankOutcomes) → Json
replay_json name facts banks =
    object (
    (codes "banks", banks_json banks)
    ∷ (codes "left_over", part_json facts.trailing.offset facts.trailing.left_over)
    ∷ (codes "locality", locality_json facts.start)
    ∷ (codes "log", string name)
    ∷ (codes "not_replayed", not_replayed_json facts.algorithms.items (shown_banks banks))
    ∷ (codes "padding", part_json facts.trailing.offset facts.trailing.padding) ∷ [])

-- Its line.
abbrev pub replay_line : List ℕ → LogFacts → Option (List BankOutcomes) → List ℕ
replay_line name facts banks = json_line (replay_json name facts banks)
