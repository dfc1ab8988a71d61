-- The lines of the remarks on the places of a log's events.
use Rattle.std.specs.Prelude.{ℕ, List, [], ◌∷◌, ◌++◌, codes, flat_map}
use Rattle.std.specs.Fmt.{decimal}
use Rattle.uefi_audits.specs.OutOfPlace.{Misplaced, Remarked}
use Rattle.audit_text.specs.text.Remarks.{other_pcrs}
use Rattle.audit_text.specs.words.Rules.{rule_name}
use Rattle.shown.specs.Name.{shown_name}
use Rattle.audit_text.specs.words.Types.{type_text}

-- The line of an event that is out of place.
unfoldable pub misplaced_line : List ℕ → Misplaced → List ℕ
misplaced_line name it =
    shown_name name ++ (codes ": event " ++ (decimal it.index ++ (codes " at offset " ++ (decimal it.entry.offset
    ++ (codes " (" ++ (type_text it.entry.event.event_type ++ (codes ", PCR " ++ (decimal it.entry.event.pcr_index
    ++ (codes ") is out of place: " ++ (rule_name it.rule ++ codes "\n"))))))))))

-- The one line of all PCRs without a separator, if there are any: the first of them, and the others.
unfoldable pub unseparated_from : List ℕ → ℕ → List ℕ → List ℕ
unseparated_from name first others =
    shown_name name ++ (codes ": PCR " ++ (decimal first ++ (other_pcrs others ++ codes " without a separator\n")))

unfoldable pub unseparated_line : List ℕ → List ℕ → List ℕ
unseparated_line name [] = []
unseparated_line name (first ∷ others) = unseparated_from name first others

-- All lines: first the events, then the PCRs.
unfoldable pub remark_lines : List ℕ → Remarked → List ℕ
remark_lines name it = flat_map (misplaced_line name) it.events ++ unseparated_line name it.unseparated
