-- JSON on one line, with no control character in it.
use Rattle.std.specs.Prelude.{ℕ, ◌/◌, ◌%◌, List, ◌++◌, flat_map, codes, encode_utf8, if◌then◌else◌}
use Rattle.std.specs.Str.{chars}
use Rattle.serde_json.specs.Written.{compact_text}
use Rattle.uefi_base.specs.GuidText.{hex_byte}
use Rattle.shown.specs.Name.{is_control}
use Rattle.audit_text.specs.json.Json.{Json}

-- `\u` and four hex digits (RFC 8259, 7). All controls are below 65536.
abbrev pub unicode_escape : ℕ → List ℕ
unicode_escape character = codes "\\u" ++ (hex_byte (character / 256) ++ hex_byte (character % 256))

-- A character of the text of JSON. Controls are in strings alone, where this form stands for them.
unfoldable pub line_character : ℕ → List ℕ
line_character character = if is_control character then unicode_escape character else encode_utf8 character

unfoldable pub escaped : List ℕ → List ℕ
escaped text = flat_map line_character (chars text)

-- The line of a value: its text without spaces, with controls in this form; and that with a line break.
abbrev pub line_of : Json → List ℕ
line_of json = escaped (compact_text json.value)

abbrev pub json_line : Json → List ℕ
json_line json = line_of json ++ codes "\n"
