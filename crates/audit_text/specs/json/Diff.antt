-- What `uefi_audit diff --json` prints of two logs: an object that says what is compared, and one for each difference.
use Rattle.std.specs.Prelude.{ℕ, List, [], ◌∷◌, ◌++◌, flat_map, map, codes}
use Rattle.audit_text.specs.json.Json.{Json, null, number, string, array, object}
use Rattle.uefi_audits.specs.diff.Differences.{Change, Difference, EventDifference, event_differences}
use Rattle.uefi_audits.specs.diff.Differences.{event_changed, event_moved, event_only_new, event_only_old}
use Rattle.uefi_audits.specs.diff.Numbered.{Numbered, pcr_of}
use Rattle.audit_text.specs.ComparedLogs.{Logs}
use Rattle.audit_text.specs.json.Algorithm.{algorithm_json}
use Rattle.audit_text.specs.json.Event.{event_json}
use Rattle.audit_text.specs.json.Line.{json_line}

-- What is compared: the digests of these algorithms, and the logs of these names.
unfoldable pub compared_json : Logs → Json
compared_json logs =
    object (
    (codes "compared", array (map algorithm_json logs.algorithms))
    ∷ (codes "new", string logs.new_name)
    ∷ (codes "old", string logs.old_name) ∷ [])

-- An event of a log of this name, as `uefi_audit events --json` prints it.
abbrev pub entry_json : List ℕ → Numbered → Json
entry_json name found = event_json name found.index found.entry found.content

-- A difference: its kind, its PCR, and what the old and the new log have.
unfoldable pub difference_json : List ℕ → ℕ → Json → Json → Json
difference_json kind pcr old new =
    object (
    (codes "difference", string kind)
    ∷ (codes "new", new)
    ∷ (codes "old", old)
    ∷ (codes "pcr", number pcr) ∷ [])

-- An event of each log, or of one of them.
abbrev pub pair_json : Logs → List ℕ → Change → Json
pair_json logs kind change =
    difference_json kind (pcr_of change.old) (entry_json logs.old_name change.old) (entry_json logs.new_name change.new)

unfoldable pub event_difference_json : Logs → EventDifference → Json
event_difference_json logs (event_changed change) = pair_json logs (codes "changed") change
event_difference_json logs (event_only_old found) =
    difference_json (codes "only_old") (pcr_of found) (entry_json logs.old_name found) null
event_difference_json logs (event_only_new found) =
    difference_json (codes "only_new") (pcr_of found) null (entry_json logs.new_name found)
event_difference_json logs (event_moved change) = pair_json logs (codes "moved") change

-- All lines.
abbrev pub event_difference_line : Logs → EventDifference → List ℕ
event_difference_line logs difference = json_line (event_difference_json logs difference)

abbrev pub difference_json_lines : Logs → List Difference → List ℕ
difference_json_lines logs differences =
    json_line (compared_json logs) ++ flat_map (event_difference_line logs) (event_differences differences)
