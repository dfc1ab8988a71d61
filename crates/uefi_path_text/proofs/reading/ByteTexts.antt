-- Bytes that are written as two hex digits each are read as they were.
use Rattle.std.proofs.Common.{◌≡◌, ℕ, suc, ◌*◌, ◌%◌, ◌≤◌, List, [], ◌∷◌, length, true, refl, arith, ap, ◌∙◌, Some}
use Rattle.std.proofs.Common.{eq-eqb, le-leb}
use Rattle.std.proofs.lemmas.Bool.{and_from}
use Rattle.uefi_path_text.specs.text.Arguments.{hex_bytes}
use Rattle.uefi_path_text.specs.parse.Parts.{given}
use Rattle.uefi_path_text.specs.parse.Values.{pairs_bytes, are_pairs, bytes_in}
use Rattle.uefi_path_text.specs.declared.form.argument.Argument.TheVariants.{Bytes}
use Rattle.uefi_base.specs.LittleEndian.{AreBytes}
use Rattle.uefi_path_text.proofs.reading.HexDigits.{byte_back, hex_bytes_digits, hex_bytes_length}
use Rattle.uefi_path_text.proofs.reading.Numerals.{digits_pass}

pairs_back : (bytes : List ℕ) → AreBytes bytes → pairs_bytes (hex_bytes bytes) ≡ bytes
unfolding hex_bytes
pairs_back [] each = refl
pairs_back (b ∷ bytes) each = λ i. byte_back b (each 0) i ∷ pairs_back bytes (λ k. each (suc k)) i

pairs_pass : (bytes : List ℕ) → AreBytes bytes → are_pairs (hex_bytes bytes) ≡ true
pairs_pass bytes each =
    and_from _ _ (eq-eqb (length (hex_bytes bytes) % 2) 0 (omega (arith, hex_bytes_length bytes)))
    (digits_pass 16 (hex_bytes bytes) (hex_bytes_digits bytes each))

-- At most so many bytes.
pub bytes_read : (most : ℕ) (bytes : List ℕ) → length bytes ≤ most → AreBytes bytes
    → bytes_in (Bytes most) (hex_bytes bytes) ≡ Some bytes
unfolding bytes_in
bytes_read most bytes few each =
    let pass = and_from _ _ (pairs_pass bytes each)
    (le-leb (length (hex_bytes bytes)) (2 * most) (omega (arith, hex_bytes_length bytes))) in
    ap (λ test. given test (pairs_bytes (hex_bytes bytes))) pass ∙ ap Some (pairs_back bytes each)
