-- Numbers are read as they were written.
use Rattle.std.proofs.Common.{◌≡◌, ℕ, ◌*◌, ◌^◌, ◌<◌, ◌≤◌, ◌==◌, ◌&&◌, List, [], ◌∷◌, ◌++◌, length, true, false, not, refl, arith, slice_index}
use Rattle.std.proofs.Common.{◌∙◌, ap, lt-ltb, ne_eqb, Some, codes, pow_mono}
use Rattle.std.specs.List.{list_all}
use Rattle.std.specs.Char.{digit_value, is_digit}
use Rattle.std.specs.Fmt.{digits, decimal}
use Rattle.std.specs.Str.Parse.{AllDigits, IsNumeral, digits_value}
use Rattle.std.specs.Option.{option_map}
use Rattle.std.proofs.lemmas.Str.Parse.{digit_from_value}
use Rattle.std.proofs.lemmas.Bool.{and_right, or_from, cond-false}
use Rattle.std.proofs.lemmas.Fmt.{digits_is_IsNumeral, decimal_is_IsNumeral}
use Rattle.uefi_path_text.specs.text.Arguments.{hex}
use Rattle.uefi_path_text.specs.parse.Parts.{given, is_numeral, numeral}
use Rattle.uefi_path_text.specs.parse.Values.{below, number_in, is_hex, low_first, number_bytes, bytes_in}

-- Digits pass the test for them.
pub digits_pass : (radix : ℕ) (ds : List ℕ) → AllDigits radix ds → list_all (λ c. is_digit c radix) ds ≡ true
digits_pass radix [] each = refl
digits_pass radix (c ∷ ds) each = λ i. lt-ltb (digit_value c) radix each.0 i && digits_pass radix ds each.1 i

-- A numeral passes the test for numerals.
pub numeral_passes : (radix : ℕ) (ds : List ℕ) → IsNumeral radix ds → is_numeral radix ds ≡ true
numeral_passes radix ds is =
    let some : (length ds == 0) ≡ false = ne_eqb (length ds) 0 (λ none. omega (arith, none, is.0)) in
    λ i. not (some i) && digits_pass radix ds is.1 i

-- A numeral is read as its number.
pub numeral_is : (radix n : ℕ) (ds : List ℕ) → IsNumeral radix ds → digits_value radix ds ≡ n → numeral radix ds ≡ Some n
numeral_is radix n ds is value = λ i. given (numeral_passes radix ds is i) (value i)

-- Hex digits after `0x`, and decimal ones.
pub number_in_hex : (n : ℕ) (ds : List ℕ) → IsNumeral 16 ds → digits_value 16 ds ≡ n → number_in (codes "0x" ++ ds) ≡ Some n
unfolding number_in
number_in_hex n ds is value = numeral_is 16 n ds is value

-- Decimal digits don't begin with `0x`.
second_digit : (ds : List ℕ) → AllDigits 10 ds → slice_index ds 1 < 58
second_digit [] each = omega arith
second_digit (a ∷ []) each = omega arith
second_digit (a ∷ b ∷ ds) each = omega (arith, digit_from_value b each.1.0)

not_hex : (ds : List ℕ) → AllDigits 10 ds → is_hex ds ≡ false
not_hex ds each =
    let small = second_digit ds each in
    and_right _ _ (or_from _ _ (ne_eqb (slice_index ds 1) 0x78 (λ is. omega (arith, is, small)))
    (ne_eqb (slice_index ds 1) 0x58 (λ is. omega (arith, is, small))))

pub number_in_decimal : (n : ℕ) → n < 2 ^ 64 → number_in (decimal n) ≡ Some n
unfolding number_in
number_in_decimal n small =
    let is = decimal_is_IsNumeral n small in
    cond-false _ _ _ (not_hex (decimal n) is.0.1) ∙ numeral_is 10 n (decimal n) is.0 is.1

-- The bytes of a number that a text is.
pub number_read : (size n : ℕ) (text : List ℕ) → n < 2 ^ (8 * size) → number_in text ≡ Some n
    → number_bytes size text ≡ Some (low_first size n)
unfolding bytes_in
number_read size n text fits read =
    ap (λ o. option_map (low_first size) (below (2 ^ (8 * size)) o)) read
    ∙ ap (λ test. option_map (low_first size) (given test n)) (lt-ltb n (2 ^ (8 * size)) fits)

-- A number of at most eight bytes.
pub number_below : (size n : ℕ) → size ≤ 8 → n < 2 ^ (8 * size) → n < 2 ^ 64
number_below size n short fits =
    let most : 2 ^ (8 * size) ≤ 2 ^ 64 = pow_mono {i = 8 * size} {j = 64} (omega arith) in omega (arith, most, fits)

-- A number is read as its bytes, as hex digits and as decimal ones.
pub number_in_own_hex : (n : ℕ) → n < 2 ^ 64 → number_in (hex n) ≡ Some n
number_in_own_hex n fits =
    let is = digits_is_IsNumeral 16 true (omega arith) (omega arith) n (omega arith) in
    number_in_hex n (digits 16 true n) is.0 is.1

pub hex_read : (size n : ℕ) → size ≤ 8 → n < 2 ^ (8 * size) → number_bytes size (hex n) ≡ Some (low_first size n)
hex_read size n short fits = number_read size n (hex n) fits (number_in_own_hex n (number_below size n short fits))

pub decimal_read : (size n : ℕ) → size ≤ 8 → n < 2 ^ (8 * size) → number_bytes size (decimal n) ≡ Some (low_first size n)
decimal_read size n short fits = number_read size n (decimal n) fits (number_in_decimal n (number_below size n short fits))
