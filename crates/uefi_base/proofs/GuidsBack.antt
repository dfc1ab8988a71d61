-- The text of sixteen bytes is read as these bytes.
use Rattle.std.proofs.Common.{◌≡◌, ℕ, zero, suc, ◌+◌, ◌/◌, ◌%◌, ◌<◌, ◌&&◌, Bool, true, false, List, [], ◌∷◌, length, map}
use Rattle.std.proofs.Common.{slice_index, refl, ap, ◌∙◌, arith, ◌*◌, lit<, eqb-true}
use Rattle.std.specs.Char.{is_ascii_hexdigit, digit_value, to_ascii_lowercase}
use Rattle.std.specs.List.{range_with_len}
use Rattle.std.specs.Fmt.{digit_glyph}
use Rattle.std.proofs.lemmas.Bool.{and_parts, and_from}
use Rattle.std.proofs.lemmas.List.{same_lists, get_or_default}
use Rattle.std.proofs.lemmas.List.FromFn.{length-map-range_with_len, get_or-map-range_with_len}
use Rattle.uefi_base.specs.LittleEndian.{AreBytes}
use Rattle.uefi_base.specs.GuidText.{guid_text, is_separator, fits_guid, FitsGuidBefore, IsGuidText, byte_of_digits, guid_bytes}
use Rattle.uefi_base.specs.Laws.{GuidsReadBack}
use Rattle.uefi_base.proofs.HexDigits.{glyph_digit, byte_back, glyph_back, value_below}

-- Each byte fits, from the offset on.
abbrev all_fit : ℕ → List ℕ → Bool
all_fit offset [] = true
all_fit offset (c ∷ text) = fits_guid offset c && all_fit (offset + 1) text

each_fits : (offset : ℕ) (text : List ℕ) → all_fit offset text ≡ true → (k : ℕ) → k < length text
    → fits_guid (offset + k) (slice_index text k) ≡ true
each_fits offset [] all k within = absurd (omega (arith, within))
each_fits offset (c ∷ text) all zero within =
    let same : offset + 0 ≡ offset = omega arith in
    rw same ((and_parts (fits_guid offset c) (all_fit (offset + 1) text) all).0)
each_fits offset (c ∷ text) all (suc k) within =
    let rest = (and_parts (fits_guid offset c) (all_fit (offset + 1) text) all).1 in
    let same : offset + suc k ≡ offset + 1 + k = omega arith in
    rw same (each_fits (offset + 1) text rest k (omega (arith, within)))

-- The two digits of a byte are hex digits.
abbrev is_digit_of : ℕ → Bool
is_digit_of d = is_ascii_hexdigit (digit_glyph false d)

both_digits : (b : ℕ) (rest : Bool) → b < 256 → rest ≡ true
    → (is_digit_of (b / 16) && (is_digit_of (b % 16) && rest)) ≡ true
both_digits b rest small more =
    and_from _ _ (glyph_digit (b / 16) (omega arith)) (and_from _ _ (glyph_digit (b % 16) (omega arith)) more)

text_fits : (bytes : List ℕ) → AreBytes bytes → all_fit 0 (guid_text bytes) ≡ true
text_fits bytes each =
    digits 3 (digits 2 (digits 1 (digits 0 (digits 5 (digits 4 (digits 7 (digits 6 (digits 8 (digits 9 (digits 10
    (digits 11 (digits 12 (digits 13 (digits 14 (digits 15 refl)))))))))))))))
  where
    digits : {rest : Bool} (k : ℕ) → rest ≡ true
        → (is_digit_of (slice_index bytes k / 16) && (is_digit_of (slice_index bytes k % 16) && rest)) ≡ true
    digits {rest} k more = both_digits (slice_index bytes k) rest (each k) more

fits_before : (bytes : List ℕ) → AreBytes bytes → FitsGuidBefore (guid_text bytes) 36
fits_before bytes each k within =
    let same : 0 + k ≡ k = omega arith in
    rw same at (each_fits 0 (guid_text bytes) (text_fits bytes each) k within)

-- A list is that of its elements at each index.
listed : (n : ℕ) (bytes : List ℕ) → length bytes ≡ n → map (slice_index bytes) (range_with_len 0 n) ≡ bytes
listed n bytes long = same_lists _ bytes
    (omega (arith, length-map-range_with_len (slice_index bytes) 0 n, long)) (λ k d within.
    let inside : k < n = omega (arith, length-map-range_with_len (slice_index bytes) 0 n, within) in
    get_or-map-range_with_len (slice_index bytes) 0 n k k d inside (omega arith)
    ∙ get_or_default bytes k 0 d (omega (arith, inside, long)))

-- The bytes of the digits of each byte.
abbrev digits_twice : ℕ → ℕ
digits_twice b = 16 * digit_value (digit_glyph false (b / 16)) + digit_value (digit_glyph false (b % 16))

bytes_back : (bytes : List ℕ) → AreBytes bytes → map digits_twice bytes ≡ bytes
bytes_back [] each = refl
bytes_back (b ∷ bytes) each = λ i. byte_back b (each 0) i ∷ bytes_back bytes (λ k. each (suc k)) i

read_bytes : (bytes : List ℕ) → AreBytes bytes → length bytes ≡ 16 → guid_bytes (guid_text bytes) ≡ bytes
read_bytes bytes each long =
    let twice : guid_bytes (guid_text bytes) ≡ map digits_twice bytes = ap (map digits_twice) (listed 16 bytes long) in
    twice ∙ bytes_back bytes each

-- The text of the bytes of a text is the text in lower case.
written_back : (text : List ℕ) → IsGuidText text → guid_text (guid_bytes text) ≡ map to_ascii_lowercase text
written_back text is = cells ∙ ap (map to_ascii_lowercase) (listed 36 text is.sized)
  where
    digit : (k : ℕ) → k < 36 → is_separator k ≡ false → is_ascii_hexdigit (slice_index text k) ≡ true
    digit k within other = rw other at (is.fits k within)

    high : (k : ℕ) → k + 1 < 36 → is_separator k ≡ false → is_separator (k + 1) ≡ false
        → digit_glyph false (byte_of_digits text k / 16) ≡ to_ascii_lowercase (slice_index text k)
    high k within first second =
        let c = digit k (omega (arith, within)) first in
        let small = value_below (slice_index text (k + 1)) (digit (k + 1) within second) in
        let value : byte_of_digits text k / 16 ≡ digit_value (slice_index text k) = omega (arith, small) in
        ap (digit_glyph false) value ∙ glyph_back (slice_index text k) c

    low : (k : ℕ) → k + 1 < 36 → is_separator k ≡ false → is_separator (k + 1) ≡ false
        → digit_glyph false (byte_of_digits text k % 16) ≡ to_ascii_lowercase (slice_index text (k + 1))
    low k within first second =
        let c = digit (k + 1) within second in
        let small = value_below (slice_index text (k + 1)) c in
        let value : byte_of_digits text k % 16 ≡ digit_value (slice_index text (k + 1)) = omega (arith, small) in
        ap (digit_glyph false) value ∙ glyph_back (slice_index text (k + 1)) c

    dash : (k : ℕ) → k < 36 → is_separator k ≡ true → 0x2d ≡ to_ascii_lowercase (slice_index text k)
    dash k within is_dash =
        let same : slice_index text k ≡ 0x2d = eqb-true _ _ (rw is_dash at (is.fits k within)) in
        rw same refl

    cells : guid_text (guid_bytes text) ≡ map to_ascii_lowercase (map (slice_index text) (range_with_len 0 36))
    cells = λ i. high 0 (lit< tt) refl refl i ∷ low 0 (lit< tt) refl refl i ∷ high 2 (lit< tt) refl refl i
        ∷ low 2 (lit< tt) refl refl i ∷ high 4 (lit< tt) refl refl i ∷ low 4 (lit< tt) refl refl i
        ∷ high 6 (lit< tt) refl refl i ∷ low 6 (lit< tt) refl refl i ∷ dash 8 (lit< tt) refl i
        ∷ high 9 (lit< tt) refl refl i ∷ low 9 (lit< tt) refl refl i ∷ high 11 (lit< tt) refl refl i
        ∷ low 11 (lit< tt) refl refl i ∷ dash 13 (lit< tt) refl i ∷ high 14 (lit< tt) refl refl i
        ∷ low 14 (lit< tt) refl refl i ∷ high 16 (lit< tt) refl refl i ∷ low 16 (lit< tt) refl refl i
        ∷ dash 18 (lit< tt) refl i ∷ high 19 (lit< tt) refl refl i ∷ low 19 (lit< tt) refl refl i
        ∷ high 21 (lit< tt) refl refl i ∷ low 21 (lit< tt) refl refl i ∷ dash 23 (lit< tt) refl i
        ∷ high 24 (lit< tt) refl refl i ∷ low 24 (lit< tt) refl refl i ∷ high 26 (lit< tt) refl refl i
        ∷ low 26 (lit< tt) refl refl i ∷ high 28 (lit< tt) refl refl i ∷ low 28 (lit< tt) refl refl i
        ∷ high 30 (lit< tt) refl refl i ∷ low 30 (lit< tt) refl refl i ∷ high 32 (lit< tt) refl refl i
        ∷ low 32 (lit< tt) refl refl i ∷ high 34 (lit< tt) refl refl i ∷ low 34 (lit< tt) refl refl i ∷ []

pub guids_read_back : GuidsReadBack
guids_read_back = record {
  text = λ bytes each long. record { sized = refl; fits = fits_before bytes each };
  read = read_bytes;
  written = written_back;
}
