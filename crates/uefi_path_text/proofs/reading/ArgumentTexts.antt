-- What is written can be an argument.
use Rattle.std.proofs.Common.{◌≡◌, ℕ, ◌+◌, ◌/◌, ◌%◌, ◌^◌, ◌<◌, ◌≤◌, List, [], ◌∷◌, ◌++◌, true, refl, arith, codes, slice_index}
use Rattle.std.specs.Fmt.{digits, decimal}
use Rattle.std.specs.Str.Parse.{AllDigits}
use Rattle.std.proofs.lemmas.Bool.{and_parts, and_from, agree_below_at}
use Rattle.std.proofs.lemmas.Fmt.{digits_is_IsNumeral, decimal_is_IsNumeral}
use Rattle.uefi_path_text.specs.text.Arguments.{hex, hex_bytes, long_hex, ipv4_address, is_argument, is_argument_character}
use Rattle.uefi_path_text.specs.text.SerialNumber.{is_serial_number, is_serial_character}
use Rattle.uefi_path_text.specs.text.EisaId.{product_digits, eisa_letter, eisa_id}
use Rattle.uefi_base.specs.LittleEndian.{AreBytes}
use Rattle.uefi_path_text.proofs.reading.HexDigits.{digit_passes, hex_bytes_digits}
use Rattle.uefi_path_text.proofs.reading.LongNumbers.{high_first_bytes}
use Rattle.uefi_path_text.proofs.reading.CutTexts.{all_weaker, all_append}

-- Digits, of hex numbers and of decimal ones.
pub digits_argument : (radix : ℕ) (ds : List ℕ) → radix ≤ 16 → AllDigits radix ds → is_argument ds ≡ true
digits_argument radix [] small each = refl
digits_argument radix (c ∷ ds) small each =
    and_from _ _ (digit_passes c (omega (arith, each.0))) (digits_argument radix ds small each.1)

pub hex_argument : (n : ℕ) → n < 2 ^ 64 → is_argument (hex n) ≡ true
hex_argument n small =
    digits_argument 16 (digits 16 true n) (omega arith)
    (digits_is_IsNumeral 16 true (omega arith) (omega arith) n (omega arith)).0.1

pub decimal_argument : (n : ℕ) → n < 2 ^ 64 → is_argument (decimal n) ≡ true
decimal_argument n small = digits_argument 10 (decimal n) (omega arith) (decimal_is_IsNumeral n small).0.1

-- Bytes, and bytes as a number.
pub hex_bytes_argument : (bytes : List ℕ) → AreBytes bytes → is_argument (hex_bytes bytes) ≡ true
hex_bytes_argument bytes each = digits_argument 16 (hex_bytes bytes) (omega arith) (hex_bytes_digits bytes each)

pub long_hex_argument : (bytes : List ℕ) → AreBytes bytes → is_argument (long_hex bytes) ≡ true
long_hex_argument bytes each = hex_bytes_argument bytes each

-- IPv4 addresses.
pub ipv4_argument : (bytes : List ℕ) → AreBytes bytes → is_argument (ipv4_address bytes) ≡ true
unfolding ipv4_address
ipv4_argument bytes each =
    let part : (k : ℕ) → is_argument (decimal (slice_index bytes k)) ≡ true =
    λ k. decimal_argument (slice_index bytes k) (omega (arith, each k)) in
    let at : ℕ → List ℕ = λ k. decimal (slice_index bytes k) in
    let last : List ℕ = at 2 ++ (codes "." ++ at 3) in
    let others : List ℕ = at 1 ++ (codes "." ++ last) in
    all_append is_argument_character (at 0) (codes "." ++ others) (part 0)
    (all_append is_argument_character (at 1) (codes "." ++ last) (part 1)
    (all_append is_argument_character (at 2) (codes "." ++ at 3) (part 2) (part 3)))

-- EISA identifiers.
pub product_argument : (id : ℕ) → is_argument (product_digits id) ≡ true
product_argument id = hex_bytes_argument _ (high_first_bytes 2 (id / 0x10000))

letter_argument : (bits : ℕ) → is_argument_character (eisa_letter bits) ≡ true
letter_argument bits = agree_below_at (λ b. is_argument_character (0x40 + b)) (λ b. true) 32 (bits % 0x20) refl (omega arith)

pub eisa_argument : (id : ℕ) → is_argument (eisa_id id) ≡ true
eisa_argument id = and_from _ _ (letter_argument (id / 0x400)) (and_from _ _ (letter_argument (id / 0x20))
    (and_from _ _ (letter_argument id) (product_argument id)))

pub pnp_argument : (id : ℕ) → is_argument (codes "PNP" ++ product_digits id) ≡ true
pnp_argument id = product_argument id

-- A serial number in quotes.
pub quoted_argument : (serial : List ℕ) → is_serial_number serial ≡ true
    → is_argument (codes "\"" ++ (serial ++ codes "\"")) ≡ true
quoted_argument serial is =
    all_append is_argument_character serial (codes "\"")
    (all_weaker is_serial_character is_argument_character (λ c fits. (and_parts (is_argument_character c) _ fits).0) serial is) refl
