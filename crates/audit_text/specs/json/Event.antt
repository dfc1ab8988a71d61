-- An event as JSON.
use Rattle.std.specs.Prelude.{ℕ, ◌≡◌, List, [], ◌∷◌, flat_map, map, Option, Some, None, codes, if◌then◌else◌}
use Rattle.hex.specs.Hex.{encode_lower}
use Rattle.audit_text.specs.json.Json.{Json, number, string, array, object}
use Rattle.uefi_tcg.specs.declared.uintn_size.UintnSize.{UintnSize}
use Rattle.uefi_tcg.specs.v2.Event.{Digest, Event}
use Rattle.pcr_replay.specs.declared.bank.Bank.{Bank}
use Rattle.uefi_tcg.specs.Entries.{Entry}
use Rattle.pcr_replay.specs.Measured.{is_hash_of_data}
use Rattle.uefi_audits.specs.content.Content.{Content, Says}
use Rattle.uefi_audits.specs.content.Form.{form}
use Rattle.audit_text.specs.json.Algorithm.{algorithm_json}
use Rattle.audit_text.specs.json.Content.{content_json}
use Rattle.audit_text.specs.json.Line.{line_of}
use Rattle.uefi_tcg.specs.EventTypes.{event_type_name}
use Rattle.pcr_replay.specs.Banks.{all_banks}
use Rattle.uefi_audits.specs.Naming.{bank_name}

-- A digest: its algorithm, and its bytes in hex.
unfoldable pub digest_json : Digest → Json
digest_json digest = object (
    (codes "algorithm", algorithm_json digest.algorithm)
    ∷ (codes "digest", string (encode_lower digest.bytes)) ∷ [])

-- A type: its name, if it has one, and its number.
abbrev pub named_number : Option (List ℕ) → ℕ → Json
named_number (Some name) n = object (
    (codes "name", string name)
    ∷ (codes "number", number n) ∷ [])
named_number None n = object ((codes "number", number n) ∷ [])

unfoldable pub type_json : ℕ → Json
type_json event_type = named_number (event_type_name event_type) event_type

-- The bank's name, if the event's digest of the bank is the hash of its data.
unfoldable pub hashed_bank : Event → Bank → List Json
hashed_bank event bank = if is_hash_of_data bank event then string (bank_name bank) ∷ [] else []

-- The names of all such banks.
abbrev pub hashed_banks : Event → List Json
hashed_banks event = flat_map (hashed_bank event) all_banks

-- An event of a log of this name, at this index: what its data say, the data in hex, its digests in order, the banks of which the digest is the hash of the data, its offset, its PCR and its type.
unfoldable pub event_json : List ℕ → ℕ → Entry → Content → Json
event_json log index entry content =
    object (
    (codes "content", content_json content)
    ∷ (codes "data", string (encode_lower entry.event.event_data))
    ∷ (codes "digests", array (map digest_json entry.event.digests))
    ∷ (codes "hashes_to", array (hashed_banks entry.event))
    ∷ (codes "index", number index)
    ∷ (codes "log", string log)
    ∷ (codes "offset", number entry.offset)
    ∷ (codes "pcr", number entry.event.pcr_index)
    ∷ (codes "type", type_json entry.event.event_type) ∷ [])

-- The line of an event, with what its data say by its type, with a UINTN of this size.
abbrev pub IsEventLine : UintnSize → List ℕ → ℕ → Entry → List ℕ → Type 0
IsEventLine size log index entry line =
    (content : Content) × Says size (form entry.event.event_type) entry.event.event_data content
    × (line ≡ line_of (event_json log index entry content))
