-- Bytes that are written as one number are read as they were.
use Rattle.std.proofs.Common.{◌≡◌, ℕ, zero, suc, ◌+◌, ◌*◌, ◌/◌, ◌%◌, ◌^◌, ◌<◌, List, [], ◌∷◌, ◌++◌, length, refl, arith, slice_index, reverse}
use Rattle.std.proofs.Common.{◌∙◌, ap, sym, subst, lt-ltb, pow-suc, pow-add, Some}
use Rattle.std.specs.Int.{w16, w32, w64, to_be_bytes, from_le_bytes, byte_at, bytes_low_first, bytes_high_first}
use Rattle.std.specs.Int.Digits.{number_from_digits, number_from_digits_after, AllBelowBase}
use Rattle.std.specs.Option.{option_map}
use Rattle.std.proofs.lemmas.Int.Digits.{number_lt}
use Rattle.std.proofs.lemmas.List.{reverse-append}
use Rattle.std.proofs.lemmas.Nat.{div-mul-add, le_bytes_2, le_bytes_4, le_bytes_8}
use Rattle.uefi_path_text.specs.text.Arguments.{hex_bytes, long_hex}
use Rattle.uefi_path_text.specs.parse.Parts.{given}
use Rattle.uefi_path_text.specs.parse.Values.{below, number_in, low_first, number_bytes, bytes_in}
use Rattle.uefi_path_text.specs.declared.form.argument.Argument.TheVariants.{BigEndian}
use Rattle.uefi_base.specs.LittleEndian.{AreBytes}
use Rattle.uefi_path_text.proofs.reading.ByteLists.{no_bytes, more_bytes, picked_bytes, listed}
use Rattle.uefi_path_text.proofs.reading.HexDigits.{hex_bytes_digits, hex_bytes_value, hex_bytes_length}
use Rattle.uefi_path_text.proofs.reading.Numerals.{number_in_hex, number_read}

-- The number of digits of bytes is that of the bytes.
pub number_in_long_hex : (bytes : List ℕ) → AreBytes bytes → 0 < length bytes
    → number_in (long_hex bytes) ≡ Some (number_from_digits 256 bytes)
number_in_long_hex bytes each some =
    number_in_hex _ (hex_bytes bytes) (omega (arith, hex_bytes_length bytes), hex_bytes_digits bytes each)
    (hex_bytes_value 0 bytes each)

-- What the bytes after a number add to it.
after_split : (n : ℕ) (bytes : List ℕ)
    → number_from_digits_after 256 n bytes ≡ n * 256 ^ length bytes + number_from_digits 256 bytes
after_split n [] = omega arith
after_split n (b ∷ bytes) =
    let power : 256 ^ suc (length bytes) ≡ 256 ^ length bytes * 256 = pow-suc 256 (length bytes) in
    let whole = after_split (n * 256 + b) bytes in
    let rest = after_split (0 * 256 + b) bytes in
    rw power (omega (arith, whole, rest))

byte_at_is : (k n : ℕ) → byte_at k n ≡ n / 256 ^ k % 256
byte_at_is zero n = omega arith
byte_at_is (suc k) n = refl

pub are_digits : (bytes : List ℕ) → AreBytes bytes → AllBelowBase 256 bytes
are_digits [] each = tt
are_digits (b ∷ bytes) each = (each 0, are_digits bytes (λ k. each (suc k)))

-- The bytes of the number of bytes are these.
pub bytes_again : (n : ℕ) (bytes : List ℕ) → AreBytes bytes
    → bytes_high_first (length bytes) (number_from_digits_after 256 n bytes) ≡ bytes
bytes_again n [] each = refl
bytes_again n (b ∷ bytes) each =
    let tail : AreBytes bytes = λ k. each (suc k) in
    let power : ℕ = 256 ^ length bytes in
    let m : ℕ = n * 256 + b in
    let front : number_from_digits_after 256 m bytes / power ≡ m =
    ap (λ x. x / power) (after_split m bytes)
    ∙ div-mul-add m power (number_from_digits 256 bytes) (number_lt 256 bytes (are_digits bytes tail)) in
    let first : byte_at (length bytes) (number_from_digits_after 256 m bytes) ≡ b =
    byte_at_is (length bytes) _ ∙ ap (λ x. x % 256) front ∙ omega (arith, each 0) in
    λ i. first i ∷ bytes_again m bytes tail i

-- The lowest byte first is the other order.
low_more : (i k n : ℕ) → bytes_low_first i (suc k) n ≡ bytes_low_first i k n ++ byte_at (i + k) n ∷ []
low_more i zero n = ap (λ j. byte_at j n ∷ []) (omega arith)
low_more i (suc k) n =
    let place : suc i + k ≡ i + suc k = omega arith in
    ap (λ l. byte_at i n ∷ l) (low_more (suc i) k n ∙ ap (λ j. bytes_low_first (suc i) k n ++ byte_at j n ∷ []) place)

pub high_reversed : (k n : ℕ) → reverse (bytes_high_first k n) ≡ low_first k n
high_reversed zero n = refl
high_reversed (suc k) n =
    let place : k ≡ 0 + k = omega arith in
    reverse-append (byte_at k n ∷ []) (bytes_high_first k n) ∙ ap (λ l. l ++ byte_at k n ∷ []) (high_reversed k n)
    ∙ ap (λ j. low_first k n ++ byte_at j n ∷ []) place ∙ sym (low_more 0 k n)

pub powers : (k : ℕ) → 256 ^ k ≡ 2 ^ (8 * k)
powers zero = refl
powers (suc k) =
    let more : 8 * suc k ≡ 8 * k + 8 = omega arith in
    pow-suc 256 k ∙ ap (λ x. x * 256) (powers k) ∙ sym (ap (λ j. 2 ^ j) more ∙ pow-add 2 (8 * k) 8)

-- A number of some bytes, the highest first, is read as the bytes in the other order.
pub long_hex_read : (size : ℕ) (bytes : List ℕ) → length bytes ≡ size → 0 < size → AreBytes bytes
    → number_bytes size (long_hex bytes) ≡ Some (reverse bytes)
long_hex_read size bytes long some each =
    let n : ℕ = number_from_digits 256 bytes in
    let limit : 256 ^ length bytes ≡ 2 ^ (8 * size) = powers (length bytes) ∙ ap (λ k. 2 ^ (8 * k)) long in
    let fits : n < 2 ^ (8 * size) = subst (λ x. n < x) limit (number_lt 256 bytes (are_digits bytes each)) in
    let back : low_first size n ≡ reverse bytes =
    sym (high_reversed size n) ∙ ap (λ k. reverse (bytes_high_first k n)) (sym long) ∙ ap reverse (bytes_again 0 bytes each) in
    number_read size n (long_hex bytes) fits (number_in_long_hex bytes each (omega arith)) ∙ ap Some back

-- Eight bytes with the highest first are read as they are.
pub big_endian_read : (bytes : List ℕ) → length bytes ≡ 8 → AreBytes bytes
    → bytes_in BigEndian (long_hex bytes) ≡ Some bytes
unfolding bytes_in
big_endian_read bytes long each =
    let n : ℕ = number_from_digits 256 bytes in
    let fits : n < 2 ^ 64 = subst (λ k. n < 256 ^ k) long (number_lt 256 bytes (are_digits bytes each)) in
    ap (λ o. option_map (λ m. bytes_high_first 8 m) (below (2 ^ 64) o)) (number_in_long_hex bytes each (omega arith))
    ∙ ap (λ test. option_map (λ m. bytes_high_first 8 m) (given test n)) (lt-ltb n (2 ^ 64) fits)
    ∙ ap Some (ap (λ k. bytes_high_first k n) (sym long) ∙ bytes_again 0 bytes each)

-- Bytes of a number are bytes.
byte_below : (k n : ℕ) → byte_at k n < 256
byte_below zero n = omega arith
byte_below (suc k) n = omega arith

pub high_first_bytes : (k n : ℕ) → AreBytes (bytes_high_first k n)
high_first_bytes zero n = no_bytes
high_first_bytes (suc k) n = more_bytes (byte_at k n) (bytes_high_first k n) (byte_below k n) (high_first_bytes k n)

-- The same of a number of four bytes, of one byte, and of four bytes with the lowest first.
pub word_read : (n : ℕ) → number_bytes 4 (long_hex (to_be_bytes w32 n)) ≡ Some (low_first 4 n)
word_read n = long_hex_read 4 (to_be_bytes w32 n) refl (omega arith) (high_first_bytes 4 n)

pub byte_read : (b : ℕ) → b < 256 → number_bytes 1 (long_hex (b ∷ [])) ≡ Some (b ∷ [])
byte_read b small = long_hex_read 1 (b ∷ []) refl (omega arith) (more_bytes b [] small no_bytes)

pub signature_read : (bytes : List ℕ) → length bytes ≡ 4 → AreBytes bytes
    → number_bytes 4 (long_hex (slice_index bytes 3 ∷ slice_index bytes 2 ∷ slice_index bytes 1 ∷ slice_index bytes 0 ∷ [])) ≡ Some bytes
signature_read bytes long each =
    long_hex_read 4 _ refl (omega arith) (picked_bytes bytes (3 ∷ 2 ∷ 1 ∷ 0 ∷ []) each) ∙ ap Some (listed 4 bytes long)

-- The bytes of the number of a field are the field's.
pub low_first_1 : (b : ℕ) → b < 256 → low_first 1 b ≡ b ∷ []
low_first_1 b small = ap (λ x. x ∷ []) (omega arith)

pub low_first_2 : (d : List ℕ) → length d ≡ 2 → AreBytes d → low_first 2 (from_le_bytes w16 d) ≡ d
low_first_2 d long each = le_bytes_2 d _ long each refl

pub low_first_4 : (d : List ℕ) → length d ≡ 4 → AreBytes d → low_first 4 (from_le_bytes w32 d) ≡ d
low_first_4 d long each = le_bytes_4 d _ long each refl

pub low_first_8 : (d : List ℕ) → length d ≡ 8 → AreBytes d → low_first 8 (from_le_bytes w64 d) ≡ d
low_first_8 d long each = le_bytes_8 d _ long each refl
