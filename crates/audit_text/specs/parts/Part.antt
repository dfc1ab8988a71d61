-- A named part of what data say, which JSON and an event's block of lines have in common.
use Rattle.std.specs.Prelude.{ℕ, ◌/◌, ◌%◌, List, [], ◌∷◌, ◌++◌, map, flat_map, codes, Option, Some, None, false}
use Rattle.std.specs.Fmt as fmt
use Rattle.hex.specs.Hex.{encode_lower, encode_upper}
use Rattle.shown.specs.Name.{shown_name}
use Rattle.uefi_base.specs.GuidText.{guid_text}
use Rattle.audit_text.specs.json.Json as json
use Rattle.audit_text.specs.json.Json.{Json}
use Rattle.audit_text.specs.text.EventParts.{text_or_hex}
use Rattle.audit_text.specs.words.Printed.{printed_text}

-- A value: what it is in JSON, and its text in the block.
pub record Value : Type 0 where
  pub json : Json
  pub shown : List ℕ

-- A part: its key in JSON, what is before its value in the block, and its value. Without a key it isn't in JSON, and without words
-- not in the block.
pub record Part : Type 0 where
  pub key : Option (List ℕ)
  pub words : Option (List ℕ)
  pub value : Value

-- The members of an object, and the lines of the block.
abbrev pub keyed : Option (List ℕ) → Json → List (List ℕ × Json)
keyed (Some key) value = (key, value) ∷ []
keyed None value = []

abbrev pub members_of : List Part → List (List ℕ × Json)
members_of parts = flat_map (λ part. keyed part.key part.value.json) parts

abbrev pub after_words : Option (List ℕ) → List ℕ → List ℕ
after_words (Some words) shown = words ++ shown
after_words None shown = []

abbrev pub lines_of : List Part → List ℕ
lines_of parts = flat_map (λ part. after_words part.words part.value.shown) parts

-- No value.
unfoldable pub empty : Value
empty = record { json = json.null; shown = [] }

-- Numbers: in digits, in hex, and that of a boot option.
unfoldable pub decimal : ℕ → Value
decimal n = record { json = json.number n; shown = fmt.decimal n }

unfoldable pub hexadecimal : ℕ → Value
hexadecimal n = record { json = json.number n; shown = codes "0x" ++ fmt.digits 16 false n }

unfoldable pub boot_number : ℕ → Value
boot_number n = record { json = json.number n; shown = codes " Boot" ++ encode_upper (n / 256 ∷ n % 256 ∷ []) }

-- Texts: one that is shown as it is, a GUID, and one of the log, which is shown as a file's name is.
unfoldable pub plain : List ℕ → Value
plain it = record { json = json.string it; shown = it }

unfoldable pub guid : List ℕ → Value
guid it = record { json = json.string (guid_text it); shown = guid_text it }

unfoldable pub text : List ℕ → Value
text it = record { json = json.string it; shown = shown_name it }

-- Bytes: in hex; in the block their text, if all of it prints.
unfoldable pub bytes : List ℕ → Value
bytes it = record { json = json.string (encode_lower it); shown = text_or_hex (printed_text it) it }

-- An object of parts; a list of values, and of objects with the parts that each of these has.
unfoldable pub object : List Part → Value
object parts = record { json = json.object (members_of parts); shown = lines_of parts }

unfoldable pub list : List Value → Value
list values = record { json = json.array (map (λ value. value.json) values); shown = flat_map (λ value. value.shown) values }

abbrev pub objects : {A : Type 0} → (A → List Part) → List A → Value
objects parts them = list (map (λ it. object (parts it)) them)

-- A part of both, of JSON alone, and of the block alone; words with no value after them, and so the end of a line.
abbrev pub both : List ℕ → List ℕ → Value → Part
both key words value = record { key = Some key; words = Some words; value = value }

abbrev pub in_json : List ℕ → Value → Part
in_json key value = record { key = Some key; words = None; value = value }

abbrev pub in_block : List ℕ → Value → Part
in_block words value = record { key = None; words = Some words; value = value }

abbrev pub words_alone : List ℕ → Part
words_alone words = in_block words empty

abbrev pub end : Part
end = words_alone (codes "\n")

-- Bytes, which the block has only if there are any, of both and of the block alone; and the bytes after what is read, if there are any.
abbrev pub if_any : List ℕ → List ℕ → Option (List ℕ)
if_any words [] = None
if_any words (byte ∷ bytes) = Some words

abbrev pub bytes_part : List ℕ → List ℕ → List ℕ → Part
bytes_part key words it = record { key = Some key; words = if_any words it; value = bytes it }

abbrev pub bytes_in_block : List ℕ → List ℕ → Part
bytes_in_block words it = record { key = None; words = if_any words it; value = bytes it }

abbrev pub rest_part : List ℕ → Part
rest_part it = record { key = if_any (codes "rest") it; words = if_any (codes "  trailing bytes") it; value = bytes it }

-- A text of JSON alone, if there is one.
abbrev pub text_in_json : List ℕ → Option (List ℕ) → Part
text_in_json key (Some it) = in_json key (text it)
text_in_json key None = record { key = None; words = None; value = empty }
