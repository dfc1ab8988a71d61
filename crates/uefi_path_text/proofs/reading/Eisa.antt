-- Compressed EISA identifiers are read as the numbers that they were written of.
use Rattle.std.proofs.Common.{◌≡◌, ℕ, ◌+◌, ◌-◌, ◌*◌, ◌/◌, ◌%◌, ◌^◌, ◌<◌, List, ◌∷◌, ◌++◌, true, refl, arith, codes, ap, ◌∙◌, Some}
use Rattle.std.specs.Str.Parse.{digits_value}
use Rattle.std.specs.Int.{w16, to_be_bytes}
use Rattle.std.specs.List.{list_all}
use Rattle.std.proofs.lemmas.Bool.{and_from, agree_below_at}
use Rattle.uefi_path_text.specs.text.Arguments.{hex_bytes}
use Rattle.uefi_path_text.specs.text.EisaId.{product_digits, eisa_letter, eisa_id}
use Rattle.uefi_path_text.specs.parse.Parts.{given}
use Rattle.uefi_path_text.specs.parse.Values.{is_eisa, is_eisa_letter, is_hex_digit, eisa_number, low_first, bytes_in}
use Rattle.uefi_path_text.specs.declared.form.argument.Argument.TheVariants.{EisaId}
use Rattle.uefi_path_text.proofs.reading.HexDigits.{hex_bytes_digits, hex_bytes_value}
use Rattle.uefi_path_text.proofs.reading.Numerals.{digits_pass}
use Rattle.uefi_path_text.proofs.reading.LongNumbers.{high_first_bytes}

letter_passes : (bits : ℕ) → is_eisa_letter (eisa_letter bits) ≡ true
letter_passes bits = agree_below_at (λ b. is_eisa_letter (0x40 + b)) (λ b. true) 32 (bits % 0x20) refl (omega arith)

product_passes : (id : ℕ) → list_all is_hex_digit (product_digits id) ≡ true
product_passes id =
    digits_pass 16 (product_digits id) (hex_bytes_digits (to_be_bytes w16 (id / 0x10000)) (high_first_bytes 2 (id / 0x10000)))

-- The digits have the number of the product.
product_value : (id : ℕ) → id < 2 ^ 32 → digits_value 16 (product_digits id) ≡ id / 0x10000
product_value id small =
    hex_bytes_value 0 (to_be_bytes w16 (id / 0x10000)) (high_first_bytes 2 (id / 0x10000)) ∙ omega arith

-- Three letters and the digits of a product are an identifier.
letters_pass : (a b c id : ℕ) → is_eisa_letter a ≡ true → is_eisa_letter b ≡ true → is_eisa_letter c ≡ true
    → is_eisa (a ∷ b ∷ c ∷ product_digits id) ≡ true
unfolding hex_bytes
letters_pass a b c id first second third =
    and_from _ _ (and_from _ _ first (and_from _ _ second (and_from _ _ third refl))) (product_passes id)

letters_read : (a b c id : ℕ) → id < 2 ^ 32 → is_eisa_letter a ≡ true → is_eisa_letter b ≡ true → is_eisa_letter c ≡ true
    → (a - 0x40) * 0x400 + (b - 0x40) * 0x20 + (c - 0x40) ≡ id % 0x10000
    → bytes_in EisaId (a ∷ b ∷ c ∷ product_digits id) ≡ Some (low_first 4 id)
unfolding bytes_in
letters_read a b c id small first second third letters =
    let text : List ℕ = a ∷ b ∷ c ∷ product_digits id in
    let number : eisa_number text ≡ id = omega (arith, letters, product_value id small) in
    ap (λ test. given test (low_first 4 (eisa_number text))) (letters_pass a b c id first second third)
    ∙ ap (λ n. Some (low_first 4 n)) number

-- An identifier, and one whose letters are `PNP`.
pub eisa_read : (id : ℕ) → id < 2 ^ 32 → id % 0x10000 < 0x8000 → bytes_in EisaId (eisa_id id) ≡ Some (low_first 4 id)
eisa_read id small letters =
    letters_read _ _ _ id small (letter_passes (id / 0x400)) (letter_passes (id / 0x20)) (letter_passes id) (omega arith)

pub pnp_read : (id : ℕ) → id < 2 ^ 32 → id % 0x10000 ≡ 0x41d0
    → bytes_in EisaId (codes "PNP" ++ product_digits id) ≡ Some (low_first 4 id)
pnp_read id small letters = letters_read 0x50 0x4e 0x50 id small refl refl refl (omega arith)
