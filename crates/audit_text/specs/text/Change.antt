-- What changed between an event of a log and its counterpart in another log, in words on one line.
use Rattle.std.specs.Prelude.{ℕ, ◌==◌, ◌&&◌, ◌||◌, not, Bool, true, false, List, [], ◌∷◌, ◌++◌, length, map, flat_map, codes, Option, Some, None, option_map, if◌then◌else◌}
use Rattle.std.specs.List.{filter}
use Rattle.std.specs.Str.{bytes_eq}
use Rattle.hex.specs.Hex.{encode_lower}
use Rattle.tcg_event.specs.Tagged.{Tagged}
use Rattle.tcg_event.specs.Text.{text_in}
use Rattle.uefi_tcg.specs.v2.Event.{Digest, Event}
use Rattle.uefi_audits.specs.Check.{forms_of}
use Rattle.uefi_audits.specs.content.Content.{Content, unread, text, loader_text, crtm_version, tagged, variable}
use Rattle.uefi_audits.specs.content.Value as values
use Rattle.uefi_audits.specs.diff.Numbered.{Numbered}
use Rattle.audit_text.specs.text.ChangeParts.{byte_change, joined, line_change, word_change}
use Rattle.audit_text.specs.text.EventContents.{content_lines}
use Rattle.audit_text.specs.text.EventParts.{algorithm_text}
use Rattle.audit_text.specs.words.Printed.{printed_text}
use Rattle.shown.specs.Name.{shown_name}
use Rattle.audit_text.specs.words.Texts.{shown_event, shown_version}

-- An event of a log, and its data.
abbrev pub event_in : Numbered → Event
event_in found = found.entry.event

abbrev pub data_of : Numbered → List ℕ
data_of found = (event_in found).event_data

-- The text of a tagged event that is the only one, with no bytes after it, as it is shown.
unfoldable pub tagged_text : List Tagged → List ℕ → Option (List ℕ)
tagged_text [] rest = None
tagged_text (one ∷ []) rest = if length rest == 0 then Some (shown_event (text_in one.payload)) else None
tagged_text (one ∷ another ∷ others) rest = None

-- The value of a variable, if it isn't read; and the text or the version that data are, as it is shown.
abbrev pub plain_value : Content → Option (List ℕ)
plain_value (variable it values.unread) = Some it.payload
plain_value other = None

abbrev pub words_in : Content → Option (List ℕ)
words_in (text said) = Some (shown_name said)
words_in (loader_text it) = Some (shown_event it)
words_in (crtm_version it) = Some (shown_version it)
words_in (tagged events rest) = tagged_text events rest
words_in other = None

abbrev pub is_unread : Content → Bool
is_unread unread = true
is_unread other = false

-- What changed between two values or texts; if there aren't two, what is said otherwise.
abbrev pub if_both : (List ℕ → List ℕ → List ℕ) → Option (List ℕ) → Option (List ℕ) → List ℕ → List ℕ
if_both between (Some old) (Some new) other = between old new
if_both between old new other = other

-- What changed between texts that print, from the first word that differs, or between bytes.
unfoldable pub print_change : List ℕ → List ℕ → List ℕ
print_change old new =
    if_both word_change (option_map shown_name (printed_text old)) (option_map shown_name (printed_text new)) (byte_change old new)

-- A value that is 0 or 1 in one byte is said so; of another one what changed in its text or its bytes.
unfoldable pub value_change : List ℕ → List ℕ → List ℕ
value_change old new =
    if bytes_eq old (0 ∷ []) && bytes_eq new (1 ∷ []) then codes "0 -> 1"
    else if bytes_eq old (1 ∷ []) && bytes_eq new (0 ∷ []) then codes "1 -> 0"
    else print_change old new

-- The lines of what the data say, as in an event's block, that only one of two events has. If the data of one aren't read,
-- nothing is said.
abbrev pub lines_in : Numbered → List ℕ
lines_in found = content_lines (data_of found) found.content

unfoldable pub block_change : Numbered → Numbered → List ℕ
block_change old new =
    if is_unread old.content || is_unread new.content then [] else line_change (lines_in old) (lines_in new)

-- What changed in texts, or else in the lines; and in values that aren't read, or else in those.
unfoldable pub read_change : Numbered → Numbered → List ℕ
read_change old new = if_both word_change (words_in old.content) (words_in new.content) (block_change old new)

unfoldable pub said_change : Numbered → Numbered → List ℕ
said_change old new = if_both value_change (plain_value old.content) (plain_value new.content) (read_change old new)

-- Words, or others if there are none; and so what changed in what the data say, or the bytes from the first that differs.
abbrev pub or_else : List ℕ → List ℕ → List ℕ
or_else words other = if length words == 0 then other else words

abbrev pub data_change : Numbered → Numbered → List ℕ
data_change old new = or_else (said_change old new) (byte_change (data_of old) (data_of new))

-- The log doesn't have what an event measures, by its type; and what either of two events measures.
abbrev pub has_no_form : Event → Bool
has_no_form event = length (forms_of event.event_type) == 0

abbrev pub are_uncovered : Numbered → Numbered → Bool
are_uncovered old new = has_no_form (event_in old) && has_no_form (event_in new)

-- What changed in the data, with a remark if no digest covers it; nothing if they are the same.
unfoldable pub data_words : Numbered → Numbered → List ℕ
data_words old new =
    if bytes_eq (data_of old) (data_of new) then []
    else if are_uncovered old new then data_change old new ++ codes " (no digest covers this)"
    else data_change old new

-- The digests of an algorithm in hex, each after a space; ` none` if an event has none.
unfoldable pub digest_hex : ℕ → Digest → List ℕ
digest_hex algorithm digest = if digest.algorithm == algorithm then codes " " ++ encode_lower digest.bytes else []

unfoldable pub digest_text : ℕ → Event → List ℕ
digest_text algorithm event = or_else (flat_map (digest_hex algorithm) event.digests) (codes " none")

-- The digests of an algorithm that two events have, if they differ; and those of each of some algorithms.
unfoldable pub digest_change : Event → Event → ℕ → List ℕ
digest_change old new algorithm =
    if bytes_eq (digest_text algorithm old) (digest_text algorithm new) then []
    else algorithm_text algorithm ++ (digest_text algorithm old ++ (codes " ->" ++ digest_text algorithm new))

abbrev pub has_words : List ℕ → Bool
has_words words = not (length words == 0)

unfoldable pub digest_changes : List ℕ → Event → Event → List ℕ
digest_changes algorithms old new = joined (codes ", ") (filter has_words (map (digest_change old new) algorithms))

-- They are said if the data don't account for them: the data are the same, or the log doesn't have what was measured.
unfoldable pub digest_words : List ℕ → Numbered → Numbered → List ℕ
digest_words algorithms old new =
    if bytes_eq (data_of old) (data_of new) || are_uncovered old new
    then digest_changes algorithms (event_in old) (event_in new) else []

-- What changed in the data and in the digests, with `; ` between them.
unfoldable pub with_digests : List ℕ → List ℕ → List ℕ
with_digests words digests =
    if length words == 0 || length digests == 0 then words ++ digests else words ++ (codes "; " ++ digests)

abbrev pub change_text : List ℕ → Numbered → Numbered → List ℕ
change_text algorithms old new = with_digests (data_words old new) (digest_words algorithms old new)
