-- What `uefi_audit check --json` prints of the events of a log.
use Rattle.std.specs.Prelude.{ℕ, ◌==◌, false, List, [], ◌∷◌, ◌++◌, codes, flat_map, map, slice_index, if◌then◌else◌}
use Rattle.audit_text.specs.json.Json.{Json, boolean, number, string, array, object}
use Rattle.uefi_audits.specs.CheckResult.{Mismatched, all_forms, form_index}
use Rattle.uefi_audits.specs.OutOfPlace.{Remarked}
use Rattle.uefi_audits.specs.declared.check.counts.TypeCounts.{TypeCounts}
use Rattle.uefi_audits.specs.declared.check.form.Form.{Form}
use Rattle.audit_text.specs.json.Event.{type_json}
use Rattle.audit_text.specs.json.Line.{json_line}
use Rattle.audit_text.specs.json.OutOfPlace.{remark_lines}
use Rattle.audit_text.specs.words.Forms.{form_name}

-- An event that matches in none of the forms of its type.
unfoldable pub mismatch_json : List ℕ → Mismatched → Json
mismatch_json log it =
    object (
    (codes "index", number it.index)
    ∷ (codes "log", string log)
    ∷ (codes "matches", boolean false)
    ∷ (codes "offset", number it.entry.offset)
    ∷ (codes "pcr", number it.entry.event.pcr_index)
    ∷ (codes "type", type_json it.entry.event.event_type) ∷ [])

-- How many events match in a form, if any does; and in each of these forms.
unfoldable pub form_member : ℕ → Form → List (List ℕ × Json)
form_member count form = if count == 0 then [] else (form_name form, number count) ∷ []

abbrev pub form_members : List ℕ → List Form → List (List ℕ × Json)
form_members by_form forms = flat_map (λ form. form_member (slice_index by_form (form_index form)) form) forms

-- The counts of a type.
unfoldable pub counts_json : TypeCounts → Json
counts_json counts =
    object (
    (codes "forms", object (form_members counts.by_form all_forms))
    ∷ (codes "matched", number counts.matches)
    ∷ (codes "matches_none", number counts.matches_none)
    ∷ (codes "not_covered", number counts.not_covered)
    ∷ (codes "not_in_log", number counts.not_in_log)
    ∷ (codes "type", type_json counts.event_type.0) ∷ [])

-- Those of each type.
unfoldable pub types_json : List ℕ → List TypeCounts → Json
types_json log types =
    object ((codes "checked", array (map counts_json types)) ∷ (codes "log", string log) ∷ [])

-- The line of an event, and that of the types.
abbrev pub mismatch_line : List ℕ → Mismatched → List ℕ
mismatch_line log it = json_line (mismatch_json log it)

abbrev pub types_line : List ℕ → List TypeCounts → List ℕ
types_line log types = json_line (types_json log types)

-- The lines of a log of this name: first the events that don't match, then the remarks on their places, and the types.
unfoldable pub check_lines : List ℕ → List Mismatched → Remarked → List TypeCounts → List ℕ
check_lines log mismatches remarks types =
    flat_map (mismatch_line log) mismatches ++ (remark_lines log remarks ++ types_line log types)
