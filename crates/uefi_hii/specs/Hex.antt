-- The bytes that a text spells in hex (UEFI 2.10, 35.2.1 "String Syntax").
use Rattle.std.specs.Prelude.{ℕ, ◌+◌, ◌*◌, ◌==◌, if◌then◌else◌, List, [], ◌∷◌, Option, Some, None, unwrap_or}
use Rattle.std.specs.Char.{digit_value, is_digit}

-- The value of a hex digit, in either case.
unfoldable pub hex_digit : ℕ → Option ℕ
hex_digit c = if is_digit c 16 then Some (digit_value c) else None

-- The number that two digits spell.
unfoldable pub two_digits : Option ℕ → Option ℕ → Option ℕ
two_digits (Some high) (Some low) = Some (high * 16 + low)
two_digits _ _ = None

-- The byte that one character spells: the digit, or else 0.
unfoldable pub byte_of_one : ℕ → ℕ
byte_of_one c = unwrap_or (hex_digit c) 0

-- The byte that two characters spell: two digits, or a plus sign (43) and a digit, or else 0.
unfoldable pub byte_of_two : ℕ → ℕ → ℕ
byte_of_two c d = unwrap_or (two_digits (hex_digit c) (hex_digit d)) (if c == 43 then byte_of_one d else 0)

-- The bytes that a text spells: one for each two bytes of the text, and one for an odd last one.
abbrev pub hex : List ℕ → List ℕ
hex [] = []
hex (c ∷ []) = byte_of_one c ∷ []
hex (c ∷ d ∷ text) = byte_of_two c d ∷ hex text
