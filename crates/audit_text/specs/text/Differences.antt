-- What `uefi_audit diff` prints of how the events of two logs differ.
use Rattle.std.specs.Prelude.{ℕ, ◌==◌, length, false, codes, map, if◌then◌else◌}
use Rattle.std.specs.Prelude.{List, [], ◌∷◌, ◌++◌, flat_map, Option, None, Some}
use Rattle.std.specs.Fmt.{decimal, digits}
use Rattle.std.specs.Str.{bytes_eq}
use Rattle.audit_text.specs.ComparedLogs.{Logs}
use Rattle.audit_text.specs.text.Change.{change_text, data_of, digest_text, has_no_form}
use Rattle.audit_text.specs.text.EventParts.{algorithm_text}
use Rattle.audit_text.specs.words.Said.{said, shown_bytes}
use Rattle.uefi_tcg.specs.EventTypes.{event_type_name}
use Rattle.uefi_tcg.specs.v2.Event.{Event}
use Rattle.uefi_audits.specs.content.Content.{Content, loader_text, tagged, variable, image}
use Rattle.uefi_audits.specs.diff.Counterparts.{Name, command_name, has_uncovered_name}
use Rattle.uefi_audits.specs.diff.Differences.{Change, Difference, EventDifference, event_differences}
use Rattle.uefi_audits.specs.diff.Differences.{event_changed, event_moved, event_only_new, event_only_old}
use Rattle.uefi_audits.specs.diff.Numbered.{Numbered, pcr_of, type_of}

-- The name of an event's type, or its number.
unfoldable pub type_text : ℕ → Option (List ℕ) → List ℕ
type_text number (Some name) = name
type_text number None = codes "type 0x" ++ digits 16 false number

-- The PCR and the type of an event, with which its line begins.
unfoldable pub start_text : Numbered → List ℕ
start_text found =
    codes "PCR " ++ (decimal (pcr_of found) ++ (codes ": " ++ type_text (type_of found) (event_type_name (type_of found))))

-- Where an event is: its index, its offset and its log.
unfoldable pub at_text : List ℕ → Numbered → List ℕ
at_text name found =
    codes "event " ++ (decimal found.index ++ (codes " at offset " ++ (decimal found.entry.offset ++ (codes " of " ++ name))))

-- What data say, after a comma; nothing if they say nothing.
unfoldable pub words_text : List ℕ → List ℕ
words_text words = if length words == 0 then [] else codes ", " ++ words

-- Whether no digest covers what the data say, or the name in them.
unfoldable pub cover_text : Numbered → List ℕ
cover_text found =
    if has_no_form found.entry.event then codes ", which no digest covers"
    else if has_uncovered_name found.content found.entry.event then codes ", whose name no digest covers"
    else []

-- What data say, and whether a digest covers it; nothing if they say nothing.
unfoldable pub covered_words : List ℕ → List ℕ → List ℕ
covered_words words cover = if length words == 0 then [] else codes ", " ++ (words ++ cover)

-- The digests of an event whose data aren't what was measured.
unfoldable pub digest_words : Event → ℕ → List ℕ
digest_words event algorithm = codes ", " ++ (algorithm_text algorithm ++ digest_text algorithm event)

unfoldable pub digests_text : List ℕ → Event → List ℕ
digests_text algorithms event = if has_no_form event then flat_map (digest_words event) algorithms else []

-- What a line of one event begins with.
unfoldable pub place_text : Logs → Numbered → List ℕ
place_text logs found =
    start_text found ++ (covered_words (said found.content) (cover_text found)
    ++ (digests_text logs.algorithms found.entry.event
    ++ (codes " (" ++ (at_text logs.old_name found ++ codes ")"))))

-- The word that GRUB writes before a command, and the command's first word.
unfoldable pub command_words : Name → List ℕ
command_words found =
    if length found.name == 0 then shown_bytes found.namespace
    else shown_bytes found.namespace ++ (codes ": " ++ shown_bytes found.name)

-- The name of a variable, the path of an image, a tag, or what GRUB writes before a command and the command's first word; other
-- events that changed are named by their type alone.
unfoldable pub name_words : Content → List ℕ → List ℕ
name_words (variable it value) bytes = said (variable it value)
name_words (image it nodes) bytes = said (image it nodes)
name_words (tagged events rest) bytes = said (tagged events rest)
name_words (loader_text it) bytes = command_words (command_name bytes)
name_words other bytes = []

-- What an event that changed is named by: what its data say, if they are the same, or the name in them.
unfoldable pub label_words : Numbered → Numbered → List ℕ
label_words old new =
    if bytes_eq (data_of old) (data_of new) then said old.content else name_words old.content (data_of old)

abbrev pub name_text : Change → List ℕ
name_text change = words_text (label_words change.old change.new)

-- The line of an event that differs from its counterpart.
unfoldable pub places_text : Logs → Change → List ℕ
places_text logs change =
    codes " (" ++ (at_text logs.old_name change.old ++ (codes ", " ++ (at_text logs.new_name change.new ++ codes ")\n")))

unfoldable pub changed_line : Logs → Change → List ℕ
changed_line logs change =
    start_text change.old ++ (name_text change
    ++ (codes ": " ++ (change_text logs.algorithms change.old change.new ++ places_text logs change)))

-- That of an event that the old log alone has, and that of the first event whose order is another.
unfoldable pub only_line : Logs → Numbered → List ℕ
only_line logs found = place_text logs found ++ (codes " isn't in " ++ (logs.new_name ++ codes "\n"))

unfoldable pub earlier_text : List ℕ → Numbered → List ℕ
earlier_text name found =
    codes " comes earlier in " ++ (name ++ (codes ", as event " ++ (decimal found.index
    ++ (codes " at offset " ++ (decimal found.entry.offset ++ codes "\n")))))

unfoldable pub earlier_line : Logs → Change → List ℕ
earlier_line logs change =
    place_text logs change.old ++ earlier_text logs.new_name change.new

-- The logs the other way round.
abbrev pub reversed : Logs → Logs
reversed logs = record { old_name = logs.new_name; new_name = logs.old_name; algorithms = logs.algorithms }

-- The line of a difference.
unfoldable pub difference_line : Logs → EventDifference → List ℕ
difference_line logs (event_changed change) = changed_line logs change
difference_line logs (event_only_old found) = only_line logs found
difference_line logs (event_only_new found) = only_line (reversed logs) found
difference_line logs (event_moved change) = earlier_line logs change

-- The algorithms whose digests are compared; and all lines.
unfoldable pub algorithm_words : List ℕ → List ℕ
algorithm_words algorithms = flat_map (λ algorithm. codes " " ++ algorithm_text algorithm) algorithms

unfoldable pub compared_line : List ℕ → List ℕ
compared_line algorithms =
    if length algorithms == 0 then codes "compared: data alone, since no bank to compare is in both logs\n"
    else codes "compared:" ++ (algorithm_words algorithms ++ codes "\n")

abbrev pub difference_lines : Logs → List Difference → List ℕ
difference_lines logs differences =
    compared_line logs.algorithms ++ flat_map (difference_line logs) (event_differences differences)
