-- Compressed EISA identifiers.
use Rattle.std.specs.Prelude.{ℕ, ◌+◌, ◌/◌, ◌%◌, List, ◌∷◌}
use Rattle.std.specs.Int.{to_be_bytes, w16}
use Rattle.uefi_path_text.specs.text.Arguments.{hex_bytes}

-- The four hex digits of a compressed EISA identifier, which are the number of the product.
abbrev pub product_digits : ℕ → List ℕ
product_digits id = hex_bytes (to_be_bytes w16 (id / 0x10000))

-- A compressed EISA identifier: three letters of five bits each, and the digits of the product. The highest bit of the
-- letters is 0.
abbrev pub eisa_letter : ℕ → ℕ
eisa_letter bits = 0x40 + bits % 0x20

abbrev pub eisa_id : ℕ → List ℕ
eisa_id id = eisa_letter (id / 0x400) ∷ eisa_letter (id / 0x20) ∷ eisa_letter id ∷ product_digits id
