-- Digits of a fixed shape, with marks between them.
use Rattle.std.proofs.Common.{◌≡◌, ℕ, ◌/◌, ◌%◌, ◌<◌, ◌==◌, ◌&&◌, List, [], ◌∷◌, ◌++◌, Bool, true, not, refl, arith, ap, ◌∙◌, map, slice_index, Some, eq-eqb}
use Rattle.std.specs.List.{list_all}
use Rattle.std.specs.Fmt.{digit_glyph}
use Rattle.std.proofs.lemmas.Bool.{and_parts, and_from, not-true, cond-false, ltb-true}
use Rattle.uefi_path_text.specs.text.Arguments.{is_argument, is_argument_character}
use Rattle.uefi_path_text.specs.parse.Parts.{given}
use Rattle.uefi_path_text.specs.parse.Values.{has_pattern, fits_mark, pattern, shape_bytes, byte_of_digits, bytes_in}
use Rattle.uefi_path_text.specs.form.Pieces.{pieces_text}
use Rattle.uefi_path_text.specs.declared.form.shape.Shape.{Shape}
use Rattle.uefi_path_text.specs.declared.form.shape.Piece.{Piece}
use Rattle.uefi_path_text.specs.declared.form.shape.Piece.TheVariants.{Digits as digits_at, Mark as mark_of}
use Rattle.uefi_path_text.specs.declared.form.argument.Argument.TheVariants.{Digits}
use Rattle.uefi_base.specs.LittleEndian.{AreBytes}
use Rattle.uefi_path_text.proofs.reading.HexDigits.{glyph_digit, digit_passes, bytes_back}

-- The pattern of a piece, and of pieces.
abbrev pub piece_pattern : Piece → List ℕ
piece_pattern (digits_at k) = 0x78 ∷ 0x78 ∷ []
piece_pattern (mark_of c) = c ∷ []

abbrev pub pieces_pattern : List Piece → List ℕ
pieces_pattern [] = []
pieces_pattern (piece ∷ pieces) = piece_pattern piece ++ pieces_pattern pieces

-- A mark is no `x`, and can be in an argument.
abbrev pub is_mark : Piece → Bool
is_mark (digits_at k) = true
is_mark (mark_of c) = not (c == 0x78) && is_argument_character c

-- The digits fit the pattern.
digit_fits : (bytes : List ℕ) (k : ℕ) → AreBytes bytes → (pieces : List Piece)
    → has_pattern (pieces_pattern pieces) (pieces_text bytes pieces) ≡ true
    → has_pattern (pieces_pattern (digits_at k ∷ pieces)) (pieces_text bytes (digits_at k ∷ pieces)) ≡ true
digit_fits bytes k each pieces rest =
    let small : slice_index bytes k < 256 = each k in
    and_from _ _ (glyph_digit (slice_index bytes k / 16) (omega arith))
    (and_from _ _ (glyph_digit (slice_index bytes k % 16) (omega arith)) rest)

mark_fits : (c : ℕ) → not (c == 0x78) ≡ true → fits_mark c c ≡ true
mark_fits c other = cond-false (c == 0x78) _ _ (not-true (c == 0x78) other) ∙ eq-eqb c c refl

pub pieces_fit : (bytes : List ℕ) (pieces : List Piece) → AreBytes bytes → list_all is_mark pieces ≡ true
    → has_pattern (pieces_pattern pieces) (pieces_text bytes pieces) ≡ true
pieces_fit bytes [] each marks = refl
pieces_fit bytes (digits_at k ∷ pieces) each marks = digit_fits bytes k each pieces (pieces_fit bytes pieces each marks)
pieces_fit bytes (mark_of c ∷ pieces) each marks =
    let parts = and_parts (is_mark (mark_of c)) (list_all is_mark pieces) marks in
    and_from _ _ (mark_fits c (and_parts (not (c == 0x78)) (is_argument_character c) parts.0).0)
    (pieces_fit bytes pieces each parts.1)

-- They can be an argument.
glyph_passes : (d : ℕ) → d < 16 → is_argument_character (digit_glyph true d) ≡ true
glyph_passes d small = digit_passes (digit_glyph true d) (ltb-true _ 16 (glyph_digit d small))

pub pieces_argument : (bytes : List ℕ) (pieces : List Piece) → AreBytes bytes → list_all is_mark pieces ≡ true
    → is_argument (pieces_text bytes pieces) ≡ true
pieces_argument bytes [] each marks = refl
pieces_argument bytes (digits_at k ∷ pieces) each marks =
    let small : slice_index bytes k < 256 = each k in
    and_from _ _ (glyph_passes (slice_index bytes k / 16) (omega arith))
    (and_from _ _ (glyph_passes (slice_index bytes k % 16) (omega arith)) (pieces_argument bytes pieces each marks))
pieces_argument bytes (mark_of c ∷ pieces) each marks =
    let parts = and_parts (is_mark (mark_of c)) (list_all is_mark pieces) marks in
    and_from _ _ (and_parts (not (c == 0x78)) (is_argument_character c) parts.0).1
    (pieces_argument bytes pieces each parts.1)

-- A text of a shape is read as the bytes of its digits.
abbrev pub digits_twice : ℕ → ℕ
digits_twice b = byte_of_digits (digit_glyph true (b / 16)) (digit_glyph true (b % 16))

pub shape_read : (shape : Shape) (text bytes : List ℕ) → has_pattern (pattern shape) text ≡ true
    → shape_bytes shape text ≡ map digits_twice bytes → AreBytes bytes → bytes_in (Digits shape) text ≡ Some bytes
unfolding bytes_in
shape_read shape text bytes fits are each =
    ap (λ test. given test (shape_bytes shape text)) fits ∙ ap Some (are ∙ bytes_back bytes each)
