-- Hex digits, and the byte that two of them stand for.
use Rattle.std.proofs.Common.{◌≡◌, ℕ, ◌+◌, ◌*◌, ◌/◌, ◌%◌, ◌<◌, ◌==◌, true, false, not, nat_lt, ◌||◌, refl, arith, eqb-true, ltb-true}
use Rattle.std.specs.Char.{digit_value, is_ascii_hexdigit, to_ascii_lowercase}
use Rattle.std.specs.Fmt.{digit_glyph}
use Rattle.std.proofs.lemmas.Bool.{agree_below_at}
use Rattle.std.proofs.lemmas.Bool.Decides.{nat_tests}

-- The value of the digit of a number is the number.
pub glyph_value : (d : ℕ) → d < 16 → digit_value (digit_glyph false d) ≡ d
glyph_value d small =
    eqb-true _ d (agree_below_at (λ e. digit_value (digit_glyph false e) == e) (λ e. true) 16 d refl small)

-- The digit of a number is a hex digit.
pub glyph_digit : (d : ℕ) → d < 16 → is_ascii_hexdigit (digit_glyph false d) ≡ true
glyph_digit d small = agree_below_at (λ e. is_ascii_hexdigit (digit_glyph false e)) (λ e. true) 16 d refl small

-- The digit of a hex digit's value is the digit, in lower case.
hex_below : (c : ℕ) → is_ascii_hexdigit c ≡ true → c < 128
hex_below c digit = grind (arith, nat_tests)

pub glyph_back : (c : ℕ) → is_ascii_hexdigit c ≡ true → digit_glyph false (digit_value c) ≡ to_ascii_lowercase c
glyph_back c digit =
    let table : (not (is_ascii_hexdigit c) || (digit_glyph false (digit_value c) == to_ascii_lowercase c)) ≡ true =
    agree_below_at (λ d. not (is_ascii_hexdigit d) || (digit_glyph false (digit_value d) == to_ascii_lowercase d))
    (λ d. true) 128 c refl (hex_below c digit) in
    eqb-true _ _ (rw digit at table)

pub value_below : (c : ℕ) → is_ascii_hexdigit c ≡ true → digit_value c < 16
value_below c digit =
    let table : (not (is_ascii_hexdigit c) || nat_lt (digit_value c) 16) ≡ true =
    agree_below_at (λ d. not (is_ascii_hexdigit d) || nat_lt (digit_value d) 16)
    (λ d. true) 128 c refl (hex_below c digit) in
    ltb-true _ _ (rw digit at table)

-- The two digits of a byte stand for it.
pub byte_back : (b : ℕ) → b < 256
    → 16 * digit_value (digit_glyph false (b / 16)) + digit_value (digit_glyph false (b % 16)) ≡ b
byte_back b small = omega (arith, glyph_value (b / 16) (omega arith), glyph_value (b % 16) (omega arith))
