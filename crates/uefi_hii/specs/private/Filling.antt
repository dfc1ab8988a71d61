-- A buffer that is filled with the bytes that a text spells in hex (UEFI 2.10, 35.2.1 "String Syntax").
use Rattle.std.specs.Prelude.{ℕ, ◌≡◌, ◌*◌, List, ◌++◌, take, drop, Bool, is_some}
use Rattle.uefi_hii.specs.Hex.{hex, hex_digit}

-- How many characters spell one byte.
abbrev pub digits_per_byte : ℕ
digits_per_byte = 2

-- The first bytes of the buffer are those that the text spells, and its rest spells the others.
abbrev pub IsFilledTo : ℕ → List ℕ → List ℕ → Type 0
IsFilledTo count text out = take count out ++ hex (drop (digits_per_byte * count) text) ≡ hex text

-- Whether a character is a hex digit.
abbrev pub is_hex_digit : ℕ → Bool
is_hex_digit c = is_some (hex_digit c)
