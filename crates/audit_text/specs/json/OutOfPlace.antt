-- The remarks on the places of a log's events, as JSON.
use Rattle.std.specs.Prelude.{ℕ, List, [], ◌∷◌, ◌++◌, codes, flat_map}
use Rattle.audit_text.specs.json.Json.{Json, number, string, object}
use Rattle.uefi_audits.specs.OutOfPlace.{Misplaced, Remarked}
use Rattle.audit_text.specs.json.Event.{type_json}
use Rattle.audit_text.specs.json.Line.{json_line}
use Rattle.audit_text.specs.words.Rules.{rule_name}

-- An event that is out of place.
unfoldable pub misplaced_json : List ℕ → Misplaced → Json
misplaced_json log it =
    object (
    (codes "index", number it.index)
    ∷ (codes "log", string log)
    ∷ (codes "offset", number it.entry.offset)
    ∷ (codes "out_of_place", string (rule_name it.rule))
    ∷ (codes "pcr", number it.entry.event.pcr_index)
    ∷ (codes "type", type_json it.entry.event.event_type) ∷ [])

-- A PCR without a separator.
unfoldable pub unseparated_json : List ℕ → ℕ → Json
unseparated_json log pcr =
    object (
    (codes "log", string log)
    ∷ (codes "out_of_place", string (codes "no separator"))
    ∷ (codes "pcr", number pcr) ∷ [])

-- The line of an event, and that of a PCR.
abbrev pub misplaced_line : List ℕ → Misplaced → List ℕ
misplaced_line log it = json_line (misplaced_json log it)

abbrev pub unseparated_line : List ℕ → ℕ → List ℕ
unseparated_line log pcr = json_line (unseparated_json log pcr)

-- All lines: first the events, then the PCRs.
unfoldable pub remark_lines : List ℕ → Remarked → List ℕ
remark_lines log it = flat_map (misplaced_line log) it.events ++ flat_map (unseparated_line log) it.unseparated
