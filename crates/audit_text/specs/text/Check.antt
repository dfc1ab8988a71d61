-- What `uefi_audit check` prints of the events of a log.
use Rattle.std.specs.Prelude.{ℕ, ◌==◌, List, [], ◌∷◌, ◌++◌, codes, flat_map, slice_index, if◌then◌else◌}
use Rattle.std.specs.Fmt.{decimal}
use Rattle.uefi_audits.specs.CheckResult.{Mismatched, all_forms, form_index}
use Rattle.uefi_audits.specs.OutOfPlace.{Remarked}
use Rattle.uefi_audits.specs.declared.check.counts.TypeCounts.{TypeCounts}
use Rattle.uefi_audits.specs.declared.check.form.Form.{Form}
use Rattle.audit_text.specs.text.OutOfPlace.{remark_lines}
use Rattle.audit_text.specs.words.Forms.{form_name}
use Rattle.shown.specs.Name.{shown_name}
use Rattle.audit_text.specs.words.Types.{type_text}

-- The line of an event that matches in none of the forms of its type.
unfoldable pub mismatch_line : List ℕ → Mismatched → List ℕ
mismatch_line name it =
    shown_name name ++ (codes ": event " ++ (decimal it.index ++ (codes " at offset " ++ (decimal it.entry.offset
    ++ (codes " (" ++ (type_text it.entry.event.event_type ++ (codes ", PCR " ++ (decimal it.entry.event.pcr_index
    ++ codes ") matches in none of the forms of its type\n"))))))))

-- How many events match in a form, if any does.
unfoldable pub if_any : ℕ → Form → List (List ℕ)
if_any count form = if count == 0 then [] else (decimal count ++ (codes " " ++ form_name form)) ∷ []

abbrev pub form_texts : List ℕ → List Form → List (List ℕ)
form_texts by_form forms = flat_map (λ form. if_any (slice_index by_form (form_index form)) form) forms

-- These after a space and in parentheses, with commas between them; nothing if there are none.
unfoldable pub in_parentheses : List (List ℕ) → List ℕ
in_parentheses [] = []
in_parentheses (first ∷ others) = codes " (" ++ (first ++ (flat_map (λ other. codes ", " ++ other) others ++ codes ")"))

-- The end of a type's line: how many of its events aren't covered, if any isn't.
unfoldable pub uncovered_text : ℕ → List ℕ
uncovered_text count = if count == 0 then codes "\n" else codes ", " ++ (decimal count ++ codes " not covered\n")

-- The line of a type: how many of its events match and in which forms, how many don't, and how many aren't covered.
unfoldable pub counts_line : TypeCounts → List ℕ
counts_line counts =
    type_text counts.event_type.0 ++ (codes ": " ++ (decimal counts.matches ++ (codes " match"
    ++ (in_parentheses (form_texts counts.by_form all_forms) ++ (codes ", " ++ (decimal counts.matches_none
    ++ (codes " don't match, " ++ (decimal counts.not_in_log ++ (codes " not in the log"
    ++ uncovered_text counts.not_covered)))))))))

-- The lines of a log of this name: first the events that don't match, then the remarks on their places, and the types.
unfoldable pub check_text : List ℕ → List Mismatched → Remarked → List TypeCounts → List ℕ
check_text name mismatches remarks types =
    flat_map (mismatch_line name) mismatches ++ (remark_lines name remarks ++ flat_map counts_line types)
