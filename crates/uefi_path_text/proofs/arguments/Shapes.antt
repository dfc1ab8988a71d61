-- What a text of a shape has where the shape has digits.
use Rattle.std.proofs.Common.{◌≡◌, ◌≤◌, ◌<◌, ◌+◌, ℕ, Bool, true, false, ltb, eqb, ◌&&◌, List, [], ◌∷◌, ◌++◌, length, get_or, refl, arith, zero, suc, ap, map, take}
use Rattle.std.specs.List.{list_all}
use Rattle.std.proofs.lemmas.Bool.{and_parts, and_from, ltb-true, eqb-true, eq-eqb, false≢true, false_from_ne_true, both_ways}
use Rattle.std.proofs.lemmas.List.{take_all, take_more}
use Rattle.uefi_path_text.specs.declared.form.shape.Shape.{Shape}
use Rattle.uefi_path_text.specs.declared.form.shape.Shape.TheVariants.{Guid, Eui64, Ieee1394, Address}
use Rattle.uefi_path_text.specs.parse.Values.{has_pattern, fits_mark, pattern, offsets, is_hex_digit, byte_at}
use Rattle.uefi_path_text.proofs.arguments.Elements.{list_all-get_or}

-- A text of a pattern is as long as the pattern.
pub length_from_pattern : (marks text : List ℕ) → has_pattern marks text ≡ true → length text ≡ length marks
length_from_pattern [] [] h = refl
length_from_pattern [] (c ∷ text) h = absurd (false≢true h)
length_from_pattern (mark ∷ marks) [] h = absurd (false≢true h)
length_from_pattern (mark ∷ marks) (c ∷ text) h = ap suc (length_from_pattern marks text (and_parts (fits_mark mark c) (has_pattern marks text) h).1)

-- Each character fits its mark.
fits_from_pattern : (marks text : List ℕ) (i : ℕ) → has_pattern marks text ≡ true → i < length marks → fits_mark (get_or marks i 0) (get_or text i 0) ≡ true
fits_from_pattern [] text i h within = absurd (omega arith)
fits_from_pattern (mark ∷ marks) [] i h within = absurd (false≢true h)
fits_from_pattern (mark ∷ marks) (c ∷ text) zero h within = (and_parts (fits_mark mark c) (has_pattern marks text) h).0
fits_from_pattern (mark ∷ marks) (c ∷ text) (suc i) h within = fits_from_pattern marks text i (and_parts (fits_mark mark c) (has_pattern marks text) h).1 (omega arith)

-- A character at a digit's mark is a hex digit.
digit_at_mark : (mark c : ℕ) → mark ≡ 0x78 → fits_mark mark c ≡ true → is_hex_digit c ≡ true
digit_at_mark mark c is fits = let e : eqb mark 0x78 ≡ true = eq-eqb mark 0x78 is in rw e at fits

-- The pattern has the marks of two digits at the offset.
abbrev marks_digits : List ℕ → ℕ → Bool
marks_digits marks offset = ltb (offset + 1) (length marks) && (eqb (get_or marks offset 0) 0x78 && eqb (get_or marks (offset + 1) 0) 0x78)

-- Each offset of a shape is one of two digits.
offsets_marked : (shape : Shape) → list_all (marks_digits (pattern shape)) (offsets shape) ≡ true
offsets_marked Guid = refl
offsets_marked Eui64 = refl
offsets_marked Ieee1394 = refl
offsets_marked Address = refl

-- Two hex digits are in the text at the offset.
pub record AreDigits (text : List ℕ) (offset : ℕ) : Type 0 where
  pub within : offset + 1 < length text
  pub high : is_hex_digit (get_or text offset 0) ≡ true
  pub low : is_hex_digit (get_or text (offset + 1) 0) ≡ true

-- Where a pattern has the marks of two digits, its text has two hex digits.
digits_from_marks : (marks text : List ℕ) (offset : ℕ) → has_pattern marks text ≡ true → marks_digits marks offset ≡ true → AreDigits text offset
digits_from_marks marks text offset h marked =
    let first = and_parts (ltb (offset + 1) (length marks)) (eqb (get_or marks offset 0) 0x78 && eqb (get_or marks (offset + 1) 0) 0x78) marked in
    let both = and_parts (eqb (get_or marks offset 0) 0x78) (eqb (get_or marks (offset + 1) 0) 0x78) first.1 in
    let inside : offset + 1 < length marks = ltb-true (offset + 1) (length marks) first.0 in
    record {
      within = omega (arith, length_from_pattern marks text h);
      high = digit_at_mark (get_or marks offset 0) (get_or text offset 0) (eqb-true (get_or marks offset 0) 0x78 both.0) (fits_from_pattern marks text offset h (omega arith));
      low = digit_at_mark (get_or marks (offset + 1) 0) (get_or text (offset + 1) 0) (eqb-true (get_or marks (offset + 1) 0) 0x78 both.1) (fits_from_pattern marks text (offset + 1) h inside);
    }

-- A text of a shape has two hex digits at each of the shape's offsets.
pub digits_at_offset : (shape : Shape) (text : List ℕ) (i : ℕ) → has_pattern (pattern shape) text ≡ true → i < length (offsets shape) → AreDigits text (get_or (offsets shape) i 0)
digits_at_offset shape text i h within =
    digits_from_marks (pattern shape) text (get_or (offsets shape) i 0) h (list_all-get_or (marks_digits (pattern shape)) (offsets shape) i 0 within (offsets_marked shape))

-- The same of a list that is the shape's offsets.
pub digits_at_item : (shape : Shape) (text items : List ℕ) (i : ℕ) → items ≡ offsets shape → has_pattern (pattern shape) text ≡ true → i < length items → AreDigits text (get_or items i 0)
digits_at_item shape text items i same h within =
    let inside : i < length (offsets shape) = omega (arith, ap length same) in
    rw same (digits_at_offset shape text i h inside)

-- A text of another length doesn't have the pattern.
pub no_pattern_at_length : (marks text : List ℕ) → (length text ≡ length marks → ⊥) → has_pattern marks text ≡ false
no_pattern_at_length marks text other = false_from_ne_true (has_pattern marks text) (λ is. other (length_from_pattern marks text is))

-- A text with a character that doesn't fit doesn't have the pattern.
pub no_pattern_at_character : (marks text : List ℕ) (i : ℕ) → i < length marks → fits_mark (get_or marks i 0) (get_or text i 0) ≡ false → has_pattern marks text ≡ false
no_pattern_at_character marks text i within other =
    false_from_ne_true (has_pattern marks text) (λ is. both_ways (fits_mark (get_or marks i 0) (get_or text i 0)) other (fits_from_pattern marks text i is within))

-- All bytes are written.
pub all_written : (bytes text offsets : List ℕ) (i : ℕ) → take i bytes ≡ map (byte_at text) (take i offsets) → length bytes ≤ i → length offsets ≤ i → bytes ≡ map (byte_at text) offsets
all_written bytes text offsets i so_far short few =
    rw (take_all i bytes short, take_all i offsets few) at so_far

-- Two patterns, one after the other.
both_have : (marks more text rest : List ℕ) → has_pattern marks text ≡ true → has_pattern more rest ≡ true → has_pattern (marks ++ more) (text ++ rest) ≡ true
both_have [] more [] rest first second = second
both_have [] more (c ∷ text) rest first second = absurd (false≢true first)
both_have (mark ∷ marks) more [] rest first second = absurd (false≢true first)
both_have (mark ∷ marks) more (c ∷ text) rest first second =
    let parts = and_parts (fits_mark mark c) (has_pattern marks text) first in
    and_from (fits_mark mark c) (has_pattern (marks ++ more) (text ++ rest)) parts.0 (both_have marks more text rest parts.1 second)

-- One more character fits.
pub fits_more : (marks text : List ℕ) (i : ℕ) → i < length marks → i < length text → has_pattern (take i marks) (take i text) ≡ true → fits_mark (get_or marks i 0) (get_or text i 0) ≡ true → has_pattern (take (i + 1) marks) (take (i + 1) text) ≡ true
fits_more marks text i inside within so_far fits =
    rw (take_more marks i 0 inside, take_more text i 0 within)
    (both_have (take i marks) (get_or marks i 0 ∷ []) (take i text) (get_or text i 0 ∷ []) so_far
    (and_from (fits_mark (get_or marks i 0) (get_or text i 0)) true fits refl))
