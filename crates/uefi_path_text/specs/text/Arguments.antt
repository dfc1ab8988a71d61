-- How a name and its arguments are written (UEFI 2.10, 10.6.1). Hex digits are upper case.
use Rattle.std.specs.Prelude.{ℕ, ◌-◌, ◌/◌, ◌%◌, ◌==◌, ◌&&◌, Bool, not, nat_le, nat_lt, List, [], ◌∷◌, ◌++◌, codes, true, flat_map, length, take, slice_index}
use Rattle.std.specs.List.{list_all}
use Rattle.std.specs.Fmt.{decimal, digits, digit_glyph}

-- The arguments with commas between them, and `)`.
abbrev pub closed : List (List ℕ) → List ℕ
closed [] = codes ")"
closed (a ∷ []) = a ++ codes ")"
closed (a ∷ b ∷ more) = a ++ (codes "," ++ closed (b ∷ more))

-- A name with its arguments: `NAME(A,B,..)`.
abbrev pub call : List ℕ → List (List ℕ) → List ℕ
call name arguments = name ++ (codes "(" ++ closed arguments)

-- A number: `0x` and its hex digits, without leading zeros.
abbrev pub hex : ℕ → List ℕ
hex number = codes "0x" ++ digits 16 true number

-- Bytes: two hex digits each.
abbrev pub hex_byte : ℕ → List ℕ
hex_byte byte = digit_glyph true (byte / 16) ∷ digit_glyph true (byte % 16) ∷ []

unfoldable pub hex_bytes : List ℕ → List ℕ
hex_bytes bytes = flat_map hex_byte bytes

-- Bytes after `0x`.
abbrev pub long_hex : List ℕ → List ℕ
long_hex bytes = codes "0x" ++ hex_bytes bytes

-- An IPv4 address: four decimal numbers.
unfoldable pub ipv4_address : List ℕ → List ℕ
ipv4_address bytes =
    let at = slice_index bytes in
    decimal (at 0) ++ (codes "." ++ (decimal (at 1) ++ (codes "." ++ (decimal (at 2) ++ (codes "." ++ decimal (at 3))))))

-- A character that an argument may have: a printable one of ASCII, and neither a parenthesis nor a comma, which end
-- arguments (10.6.1.3).
abbrev pub is_argument_character : ℕ → Bool
is_argument_character c = nat_le 0x20 c && nat_lt c 0x7f && not (c == 0x28) && not (c == 0x29) && not (c == 0x2c)

-- The bytes are a text that can be an argument.
abbrev pub is_argument : List ℕ → Bool
is_argument text = list_all is_argument_character text

-- Bytes without the last, which is a NUL.
abbrev pub without_nul : List ℕ → List ℕ
without_nul bytes = take (length bytes - 1) bytes
