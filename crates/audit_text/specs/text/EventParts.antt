-- Parts of the lines of an event.
use Rattle.std.specs.Prelude.{ℕ, ◌-◌, ◌/◌, zero, suc, List, ◌++◌, take, drop, length, codes, Option, Some, None}
use Rattle.hex.specs.Hex.{encode_lower}
use Rattle.audit_text.specs.words.Names.{algorithm_name}
use Rattle.shown.specs.Name.{shown_name}
use Rattle.audit_text.specs.words.Types.{name_or_number}

-- The name of an algorithm, or its number in hex.
abbrev pub algorithm_text : ℕ → List ℕ
algorithm_text algorithm = name_or_number (algorithm_name algorithm) algorithm

-- Bytes in hex: a line; so many lines of 32 bytes, and the line of the bytes after them; and 32 a line.
unfoldable pub hex_line : List ℕ → List ℕ
hex_line bytes = codes "    " ++ (encode_lower bytes ++ codes "\n")

unfoldable pub hex_lines_after : ℕ → List ℕ → List ℕ
hex_lines_after zero bytes = hex_line bytes
hex_lines_after (suc more) bytes = hex_line (take 32 bytes) ++ hex_lines_after more (drop 32 bytes)

abbrev pub hex_lines : List ℕ → List ℕ
hex_lines bytes = hex_lines_after ((length bytes - 1) / 32) bytes

-- After the words for bytes: the text that they are, or the bytes.
unfoldable pub text_or_hex : Option (List ℕ) → List ℕ → List ℕ
text_or_hex (Some text) bytes = codes ": " ++ (shown_name text ++ codes "\n")
text_or_hex None bytes = codes "\n" ++ hex_lines bytes
