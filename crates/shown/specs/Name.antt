-- Names of files and texts as they are printed: on one line, and with nothing in them hidden.
use Rattle.std.specs.Prelude.{ℕ, ◌==◌, ◌&&◌, ◌||◌, not, Bool, List, ◌++◌, nat_le, flat_map, codes, encode_utf8, if◌then◌else◌}
use Rattle.std.specs.Str.{chars}
use Rattle.uefi_base.specs.GuidText.{hex_byte}

abbrev pub is_between : ℕ → ℕ → ℕ → Bool
is_between low high character = nat_le low character && nat_le character high

-- A control character of ASCII or Latin-1, a separator of lines or paragraphs, or a control of the writing direction (Unicode's property `Bidi_Control`).
unfoldable pub is_control : ℕ → Bool
is_control character =
    is_between 0 0x1f character || is_between 0x7f 0x9f character || (character == 0x61c)
    || is_between 0x200e 0x200f character || is_between 0x2028 0x202e character || is_between 0x2066 0x2069 character

-- A space other than U+0020 (Unicode, category `Zs`).
unfoldable pub is_other_space : ℕ → Bool
is_other_space character =
    (character == 0xa0) || (character == 0x1680) || is_between 0x2000 0x200a character || (character == 0x202f)
    || (character == 0x205f) || (character == 0x3000)

-- A character that isn't seen (Unicode, property `Default_Ignorable_Code_Point`; U+FFF9 to U+FFFB), or for private use
-- (category `Co`).
unfoldable pub is_unseen : ℕ → Bool
is_unseen character =
    (character == 0xad) || (character == 0x34f) || is_between 0x115f 0x1160 character || is_between 0x17b4 0x17b5 character
    || is_between 0x180b 0x180f character || is_between 0x200b 0x200d character || is_between 0x2060 0x206f character
    || (character == 0x3164) || is_between 0xe000 0xf8ff character || is_between 0xfe00 0xfe0f character
    || (character == 0xfeff) || (character == 0xffa0) || is_between 0xfff0 0xfffb character
    || is_between 0x1bca0 0x1bca3 character || is_between 0x1d173 0x1d17a character || is_between 0xe0000 0x10ffff character

-- A byte as `\x` and two hex digits.
abbrev pub hex_escape : ℕ → List ℕ
hex_escape byte = codes "\\x" ++ hex_byte byte

-- What is written so, byte by byte: what doesn't print, and the backslash, by which a name can't be taken for another.
abbrev pub is_escaped : ℕ → Bool
is_escaped character = is_control character || is_other_space character || is_unseen character || (character == 0x5c)

-- A character of a name.
unfoldable pub shown_character : ℕ → List ℕ
shown_character character = if is_escaped character then flat_map hex_escape (encode_utf8 character) else encode_utf8 character

-- A byte of a name that isn't UTF-8: a character of ASCII that prints, or hex digits; and such a name.
unfoldable pub shown_byte : ℕ → List ℕ
shown_byte byte = if is_between 0x20 0x7e byte && not (byte == 0x5c) then encode_utf8 byte else hex_escape byte

abbrev pub shown_name_bytes : List ℕ → List ℕ
shown_name_bytes bytes = flat_map shown_byte bytes

-- A name.
unfoldable pub shown_name : List ℕ → List ℕ
shown_name name = flat_map shown_character (chars name)
