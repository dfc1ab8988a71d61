-- Strings and arrays of JSON (RFC 8259, 7 "Strings" and 5 "Arrays").
use Rattle.std.specs.Prelude.{ℕ, ◌/◌, ◌%◌, ◌==◌, ◌||◌, if◌then◌else◌, List, [], ◌∷◌, ◌++◌, flat_map, codes, encode_utf8}
use Rattle.std.specs.Str.{chars}
use Rattle.uefi_base.specs.GuidText.{hex_byte}
use Rattle.shown.specs.Name.{is_control}

-- A character as `\u` and four hex digits.
abbrev pub unicode_escape : ℕ → List ℕ
unicode_escape character = codes "\\u" ++ hex_byte (character / 256) ++ hex_byte (character % 256)

-- A character in a string: a control by its number, a quote and a backslash behind a backslash, any other as it is.
unfoldable pub json_character : ℕ → List ℕ
json_character character =
    if is_control character then unicode_escape character
    else if (character == 0x22) || (character == 0x5c) then codes "\\" ++ encode_utf8 character
    else encode_utf8 character

-- A text in a string, without the quotes round it.
unfoldable pub json_text : List ℕ → List ℕ
json_text text = flat_map json_character (chars text)

-- The elements of an array, the first behind this gap and each other one behind a comma.
unfoldable pub elements_behind : {X : Type 0} → List ℕ → (X → List ℕ) → List X → List ℕ
elements_behind gap element [] = []
elements_behind gap element (x ∷ xs) = gap ++ element x ++ elements_behind (codes ",") element xs

-- The elements of an array, with commas between them.
abbrev pub elements : {X : Type 0} → (X → List ℕ) → List X → List ℕ
elements element xs = elements_behind [] element xs
