-- The text of a GUID (UEFI 2.10, Appendix A).
use Rattle.std.specs.Prelude.{ℕ, ◌≡◌, ◌+◌, ◌*◌, ◌/◌, ◌%◌, ◌<◌, ◌==◌, ◌||◌, Bool, false, IsTrue, if◌then◌else◌}
use Rattle.std.specs.Prelude.{List, [], ◌∷◌, ◌++◌, codes, length, map, slice_index}
use Rattle.std.specs.Char.{digit_value, is_ascii_hexdigit}
use Rattle.std.specs.Fmt.{digit_glyph}

-- A byte, as two lowercase hex digits.
abbrev pub hex_byte : ℕ → List ℕ
hex_byte byte = digit_glyph false (byte / 16) ∷ digit_glyph false (byte % 16) ∷ []

-- The bytes at these offsets, in this order.
abbrev pub hex_at : List ℕ → List ℕ → List ℕ
hex_at bytes [] = []
hex_at bytes (offset ∷ offsets) = hex_byte (slice_index bytes offset) ++ hex_at bytes offsets

-- Five groups, separated by dashes. The first three are little-endian numbers, so their bytes appear in reverse order.
abbrev pub guid_text : List ℕ → List ℕ
guid_text bytes =
    hex_at bytes (3 ∷ 2 ∷ 1 ∷ 0 ∷ []) ++ codes "-" ++ hex_at bytes (5 ∷ 4 ∷ []) ++ codes "-"
    ++ hex_at bytes (7 ∷ 6 ∷ []) ++ codes "-"
    ++ hex_at bytes (8 ∷ 9 ∷ []) ++ codes "-" ++ hex_at bytes (10 ∷ 11 ∷ 12 ∷ 13 ∷ 14 ∷ 15 ∷ [])

-- How a text is read: `xxxxxxxx-xxxx-xxxx-xxxx-xxxxxxxxxxxx`, where each `x` is a hex digit of either case.

-- The length of a GUID's text, in bytes.
abbrev pub guid_text_length : ℕ
guid_text_length = 36

-- A dash is at the offset, between two groups.
abbrev pub is_separator : ℕ → Bool
is_separator offset = offset == 8 || offset == 13 || offset == 18 || offset == 23

-- A GUID's text may have the byte at the offset: a dash, or a hex digit.
abbrev pub fits_guid : ℕ → ℕ → Bool
fits_guid offset byte = if is_separator offset then byte == 0x2d else is_ascii_hexdigit byte

-- Each byte of the text before the offset is one that a GUID's text may have there.
abbrev pub FitsGuidBefore : List ℕ → ℕ → Type 0
FitsGuidBefore text offset = (k : ℕ) → k < offset → IsTrue (fits_guid k (slice_index text k))

-- The text is that of a GUID.
pub record IsGuidText (text : List ℕ) : Type 0 where
  pub sized : length text ≡ guid_text_length
  pub fits : FitsGuidBefore text guid_text_length

-- Where the two digits of each byte are, the higher one first. The first three groups are little-endian.
abbrev pub guid_offsets : List ℕ
guid_offsets = 6 ∷ 4 ∷ 2 ∷ 0 ∷ 11 ∷ 9 ∷ 16 ∷ 14 ∷ 19 ∷ 21 ∷ 24 ∷ 26 ∷ 28 ∷ 30 ∷ 32 ∷ 34 ∷ []

-- The byte of the two hex digits from the offset on.
abbrev pub byte_of_digits : List ℕ → ℕ → ℕ
byte_of_digits text offset = 16 * digit_value (slice_index text offset) + digit_value (slice_index text (offset + 1))

-- The bytes of the GUID whose text it is.
abbrev pub guid_bytes : List ℕ → List ℕ
guid_bytes text = map (byte_of_digits text) guid_offsets
