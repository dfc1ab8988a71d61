-- Hex digits, and the bytes that are written as two of them.
use Rattle.std.proofs.Common.{◌≡◌, ℕ, suc, ◌+◌, ◌*◌, ◌/◌, ◌%◌, ◌<◌, ◌==◌, List, [], ◌∷◌, length, true, refl, arith, map}
use Rattle.std.proofs.Common.{◌∙◌, ap, sym, not, ◌||◌, ltb-true, lt-ltb, eqb-true}
use Rattle.std.specs.Char.{digit_value, is_digit}
use Rattle.std.specs.Fmt.{digit_glyph}
use Rattle.std.specs.Str.Parse.{AllDigits, digits_value_after}
use Rattle.std.specs.Int.Digits.{number_from_digits_after}
use Rattle.std.proofs.lemmas.Bool.{agree_below_at}
use Rattle.std.proofs.lemmas.Bool.Decides.{nat_tests}
use Rattle.uefi_path_text.specs.text.Arguments.{hex_bytes, is_argument_character}
use Rattle.uefi_path_text.specs.parse.Values.{byte_of_digits}
use Rattle.uefi_base.specs.LittleEndian.{AreBytes}

-- The value of the digit of a number is the number.
pub glyph_value : (d : ℕ) → d < 16 → digit_value (digit_glyph true d) ≡ d
glyph_value d small = eqb-true _ d (agree_below_at (λ e. digit_value (digit_glyph true e) == e) (λ e. true) 16 d refl small)

-- The digit is a hex digit.
pub glyph_digit : (d : ℕ) → d < 16 → is_digit (digit_glyph true d) 16 ≡ true
glyph_digit d small = agree_below_at (λ e. is_digit (digit_glyph true e) 16) (λ e. true) 16 d refl small

-- The two digits of a byte are read as it.
pub byte_back : (b : ℕ) → b < 256 → byte_of_digits (digit_glyph true (b / 16)) (digit_glyph true (b % 16)) ≡ b
byte_back b small = omega (arith, glyph_value (b / 16) (omega arith), glyph_value (b % 16) (omega arith))

pub bytes_back : (bytes : List ℕ) → AreBytes bytes
    → map (λ b. byte_of_digits (digit_glyph true (b / 16)) (digit_glyph true (b % 16))) bytes ≡ bytes
bytes_back [] each = refl
bytes_back (b ∷ bytes) each = λ i. byte_back b (each 0) i ∷ bytes_back bytes (λ k. each (suc k)) i

-- Bytes are written as hex digits.
pub hex_bytes_digits : (bytes : List ℕ) → AreBytes bytes → AllDigits 16 (hex_bytes bytes)
unfolding hex_bytes
hex_bytes_digits [] each = tt
hex_bytes_digits (b ∷ bytes) each =
    let small : b < 256 = each 0 in (
      ltb-true _ 16 (glyph_digit (b / 16) (omega arith)),
      (ltb-true _ 16 (glyph_digit (b % 16) (omega arith)), hex_bytes_digits bytes (λ k. each (suc k))),
    )

-- The number of the digits is that of the bytes, the highest first.
pub hex_bytes_value : (n : ℕ) (bytes : List ℕ) → AreBytes bytes
    → digits_value_after 16 n (hex_bytes bytes) ≡ number_from_digits_after 256 n bytes
unfolding hex_bytes
hex_bytes_value n [] each = refl
hex_bytes_value n (b ∷ bytes) each =
    let small : b < 256 = each 0 in
    let high = glyph_value (b / 16) (omega arith) in
    let low = glyph_value (b % 16) (omega arith) in
    let both : (n * 16 + digit_value (digit_glyph true (b / 16))) * 16 + digit_value (digit_glyph true (b % 16)) ≡ n * 256 + b =
    omega (arith, high, low) in
    ap (λ m. digits_value_after 16 m (hex_bytes bytes)) both ∙ hex_bytes_value (n * 256 + b) bytes (λ k. each (suc k))

-- Two digits for each byte.
pub hex_bytes_length : (bytes : List ℕ) → length (hex_bytes bytes) ≡ 2 * length bytes
unfolding hex_bytes
hex_bytes_length [] = refl
hex_bytes_length (b ∷ bytes) = omega (arith, hex_bytes_length bytes)

-- A digit can be in an argument.
digit_below : (c : ℕ) → digit_value c < 16 → c < 128
digit_below c digit = grind (arith, nat_tests)

pub digit_passes : (c : ℕ) → digit_value c < 16 → is_argument_character c ≡ true
digit_passes c digit =
    let table : (not (is_digit c 16) || is_argument_character c) ≡ true =
    agree_below_at (λ d. not (is_digit d 16) || is_argument_character d) (λ d. true) 128 c refl (digit_below c digit) in
    sym (λ i. not (lt-ltb (digit_value c) 16 digit i) || is_argument_character c) ∙ table
