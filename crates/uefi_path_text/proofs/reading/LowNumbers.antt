-- Numbers of bytes, the lowest first, and the texts that they are written as.
use Rattle.std.proofs.Common.{◌≡◌, ℕ, slice_index, length-append, zero, suc, ◌+◌, ◌*◌, ◌/◌, ◌%◌, ◌^◌, ◌<◌, ◌≤◌, List, [], ◌∷◌, ◌++◌, length, refl, arith, sym, ap, ◌∙◌, subst, reverse, true, Some, codes, pow-suc, ltb-true}
use Rattle.std.specs.Int.{bytes_high_first}
use Rattle.std.specs.Int.Digits.{number_from_digits}
use Rattle.std.specs.Fmt.{digit_glyph}
use Rattle.std.specs.Char.{digit_value}
use Rattle.std.specs.Str.Parse.{AllDigits, IsNumeral, digits_value_after}
use Rattle.std.proofs.lemmas.Int.Digits.{number_after_append}
use Rattle.std.proofs.lemmas.List.{reverse-append, reverse-reverse}
use Rattle.uefi_base.specs.LittleEndian.{AreBytes}
use Rattle.uefi_path_text.specs.text.Arguments.{hex_byte, is_argument}
use Rattle.uefi_path_text.specs.parse.Values.{low_first, number_bytes}
use Rattle.uefi_path_text.specs.write.Values.{low_number, reversed_hex, number_text}
use Rattle.uefi_path_text.specs.declared.form.argument.Base.{Base}
use Rattle.uefi_path_text.specs.declared.form.argument.Base.TheVariants.{Hex, LongHex, Decimal}
use Rattle.uefi_path_text.proofs.reading.ByteLists.{no_bytes, more_bytes}
use Rattle.uefi_path_text.proofs.reading.HexDigits.{glyph_value, glyph_digit}
use Rattle.uefi_path_text.proofs.reading.Numerals.{hex_read, decimal_read, number_in_hex, number_read, number_below}
use Rattle.uefi_path_text.proofs.reading.LongNumbers.{high_reversed, bytes_again, powers}
use Rattle.uefi_path_text.proofs.reading.ArgumentTexts.{digits_argument, hex_argument, decimal_argument}
use Rattle.uefi_path_text.proofs.reading.WordNumbers.{hex_early, decimal_early}
use Rattle.uefi_path_text.proofs.reading.SomeDigits.{some_decimal}

-- Bytes in the other order are bytes.
append_bytes : (xs ys : List ℕ) → AreBytes xs → AreBytes ys → AreBytes (xs ++ ys)
append_bytes [] ys first second k = second k
append_bytes (x ∷ xs) ys first second zero = first 0
append_bytes (x ∷ xs) ys first second (suc k) = append_bytes xs ys (λ j. first (suc j)) second k

reverse_bytes : (v : List ℕ) → AreBytes v → AreBytes (reverse v)
reverse_bytes [] each = each
reverse_bytes (b ∷ v) each =
    subst AreBytes (sym (reverse-append (b ∷ []) v))
    (append_bytes (reverse v) (b ∷ []) (reverse_bytes v (λ k. each (suc k))) (more_bytes b [] (each 0) no_bytes))

reverse_length : (v : List ℕ) → length (reverse v) ≡ length v
reverse_length [] = refl
reverse_length (b ∷ v) = ap length (reverse-append (b ∷ []) v) ∙ omega (arith, length-append (reverse v) (b ∷ []), reverse_length v)

-- The number is that of the digits of base 256.
low_is : (v : List ℕ) → low_number v ≡ number_from_digits 256 (reverse v)
low_is [] = refl
low_is (b ∷ v) =
    let more : number_from_digits 256 (reverse v ++ (b ∷ [])) ≡ number_from_digits 256 (reverse v) * 256 + b =
    number_after_append 256 0 (reverse v) (b ∷ []) in
    omega (arith, low_is v, more) ∙ ap (number_from_digits 256) (sym (reverse-append (b ∷ []) v))

-- Its bytes are the bytes.
pub low_back : (v : List ℕ) → AreBytes v → low_first (length v) (low_number v) ≡ v
low_back v each =
    let again : bytes_high_first (length v) (low_number v) ≡ reverse v =
    ap (bytes_high_first (length v)) (low_is v) ∙ ap (λ k. bytes_high_first k (number_from_digits 256 (reverse v))) (sym (reverse_length v))
    ∙ bytes_again 0 (reverse v) (reverse_bytes v each) in
    sym (high_reversed (length v) (low_number v)) ∙ ap reverse again ∙ reverse-reverse v

pub low_below : (v : List ℕ) → AreBytes v → low_number v < 256 ^ length v
low_below [] each = omega arith
low_below (b ∷ v) each =
    let power : 256 ^ suc (length v) ≡ 256 ^ length v * 256 = pow-suc 256 (length v) in
    rw power (omega (arith, low_below v (λ k. each (suc k)), each 0))

pub low_fits : (size : ℕ) (v : List ℕ) → AreBytes v → length v ≡ size → low_number v < 2 ^ (8 * size)
low_fits size v each long = subst (λ m. low_number v < m) (powers (length v) ∙ ap (λ k. 2 ^ (8 * k)) long) (low_below v each)

-- The digits of the bytes, the last byte first, are those of the number.
after_append : (n : ℕ) (xs ys : List ℕ)
    → digits_value_after 16 n (xs ++ ys) ≡ digits_value_after 16 (digits_value_after 16 n xs) ys
after_append n [] ys = refl
after_append n (x ∷ xs) ys = after_append (n * 16 + digit_value x) xs ys

all_append : (xs ys : List ℕ) → AllDigits 16 xs → AllDigits 16 ys → AllDigits 16 (xs ++ ys)
all_append [] ys first second = second
all_append (x ∷ xs) ys first second = (first.0, all_append xs ys first.1 second)

hex_digits : (b : ℕ) → b < 256 → AllDigits 16 (hex_byte b)
hex_digits b small =
    (ltb-true _ 16 (glyph_digit (b / 16) (omega arith)), (ltb-true _ 16 (glyph_digit (b % 16) (omega arith)), tt))

reversed_digits : (v : List ℕ) → AreBytes v → AllDigits 16 (reversed_hex v)
reversed_digits [] each = tt
reversed_digits (b ∷ v) each =
    all_append (reversed_hex v) (hex_byte b) (reversed_digits v (λ k. each (suc k))) (hex_digits b (each 0))

reversed_value : (v : List ℕ) → AreBytes v → digits_value_after 16 0 (reversed_hex v) ≡ low_number v
reversed_value [] each = refl
reversed_value (b ∷ v) each =
    let small : b < 256 = each 0 in
    let high = glyph_value (b / 16) (omega arith) in
    let low = glyph_value (b % 16) (omega arith) in
    let n : ℕ = digits_value_after 16 0 (reversed_hex v) in
    let both : (n * 16 + digit_value (digit_glyph true (b / 16))) * 16 + digit_value (digit_glyph true (b % 16)) ≡ n * 256 + b =
    omega (arith, high, low) in
    after_append 0 (reversed_hex v) (hex_byte b) ∙ both ∙ omega (arith, reversed_value v (λ k. each (suc k)))

reversed_some : (v : List ℕ) → 0 < length v → 0 < length (reversed_hex v)
reversed_some [] some = absurd (omega (arith, some))
reversed_some (b ∷ v) some = omega (arith, length-append (reversed_hex v) (hex_byte b))

-- A number is read as its bytes, in each way to write it.
pub base_read : (base : Base) (size : ℕ) (v : List ℕ) → AreBytes v → length v ≡ size → 0 < size → size ≤ 8
    → number_bytes size (number_text base v) ≡ Some v
base_read Hex size v each long some short =
    hex_read size (low_number v) short (low_fits size v each long) ∙ ap Some (ap (λ k. low_first k (low_number v)) (sym long) ∙ low_back v each)
base_read Decimal size v each long some short =
    decimal_read size (low_number v) short (low_fits size v each long) ∙ ap Some (ap (λ k. low_first k (low_number v)) (sym long) ∙ low_back v each)
base_read LongHex size v each long some short =
    let is : IsNumeral 16 (reversed_hex v) = (reversed_some v (omega (arith, long, some)), reversed_digits v each) in
    number_read size (low_number v) (codes "0x" ++ reversed_hex v) (low_fits size v each long)
    (number_in_hex (low_number v) (reversed_hex v) is (reversed_value v each))
    ∙ ap Some (ap (λ k. low_first k (low_number v)) (sym long) ∙ low_back v each)

-- It can be an argument, isn't empty, and begins with a digit.
pub low_small : (size : ℕ) (v : List ℕ) → AreBytes v → length v ≡ size → size ≤ 8 → low_number v < 2 ^ 64
low_small size v each long short = number_below size (low_number v) short (low_fits size v each long)

pub base_argument : (base : Base) (v : List ℕ) → AreBytes v → length v ≤ 8 → is_argument (number_text base v) ≡ true
base_argument Hex v each short = hex_argument (low_number v) (low_small (length v) v each refl short)
base_argument Decimal v each short = decimal_argument (low_number v) (low_small (length v) v each refl short)
base_argument LongHex v each short = digits_argument 16 (reversed_hex v) (omega arith) (reversed_digits v each)

pub base_some : (base : Base) (v : List ℕ) → AreBytes v → length v ≤ 8 → 0 < length (number_text base v)
base_some Hex v each short = omega arith
base_some Decimal v each short = some_decimal (low_number v) (low_small (length v) v each refl short)
base_some LongHex v each short = omega arith

pub base_early : (base : Base) (v : List ℕ) → AreBytes v → length v ≤ 8 → slice_index (number_text base v) 0 < 58
base_early Hex v each short = hex_early (low_number v)
base_early Decimal v each short = decimal_early (low_number v) (low_small (length v) v each refl short)
base_early LongHex v each short = omega arith
