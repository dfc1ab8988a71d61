-- Hex digits that are written a block at a time.
use Rattle.std.proofs.Common.{◌≡◌, ℕ, suc, ◌/◌, ◌%◌, ◌<◌, ◌==◌, nat_lt, List, [], ◌∷◌, ◌++◌, get_or, slice_index, false}
use Rattle.std.proofs.Common.{true, refl, sym, ap, ◌∙◌, arith}
use Rattle.std.proofs.Output.{has_written_append, has_written_of_eq}
use Rattle.std.proofs.lemmas.Bool.{agree_below_at, and_parts, ltb-true}
use Rattle.std.proofs.lemmas.Bool.Decides.{nat_tests}
use Rattle.std.proofs.lemmas.Grind.{flat_map-append}
use Rattle.std.proofs.lemmas.Str.Ascii.{IsAscii-nil, IsAscii-cons}
use Rattle.std.specs.List.{list_all}
use Rattle.std.specs.Fmt.{digit_glyph, HasWritten, IsPlainFormatter}
use Rattle.std.specs.Str.{IsAscii}
use Rattle.std.specs.declared.fmt.Formatter.{Formatter}
use Rattle.hex.specs.Hex.{encode_with, encode_lower, lower_digits}
use Rattle.uefi_base.specs.GuidText.{hex_byte}
use Rattle.shown.specs.HexText.{hex_of}

-- The digits of two lists of bytes are joined.
pub hex_of-append : (one other : List ℕ) → hex_of (one ++ other) ≡ hex_of one ++ hex_of other
unfolding hex_of
hex_of-append one other = flat_map-append hex_byte one other

-- A digit is the same, by its index in a table and by its value.
pub digit_by_index : (d : ℕ) → d < 16 → slice_index lower_digits d ≡ digit_glyph false d
digit_by_index d small =
    let same : (slice_index lower_digits d == digit_glyph false d) ≡ true =
    agree_below_at (λ x. slice_index lower_digits x == digit_glyph false x) (λ x. true) 16 d refl small in
    grind (arith, nat_tests)

-- Digits by the table are those by their values.
pub encode_lower-hex_of : (bytes : List ℕ) → ((i : ℕ) → get_or bytes i 0 < 256) → encode_lower bytes ≡ hex_of bytes
unfolding hex_of encode_with
encode_lower-hex_of [] small = refl
encode_lower-hex_of (byte ∷ bytes) small =
    let fits : byte < 256 = small 0 in
    let high = digit_by_index (byte / 16) (omega arith) in
    let low = digit_by_index (byte % 16) (omega arith) in
    let others = encode_lower-hex_of bytes (λ i. small (suc i)) in
    λ i. high i ∷ low i ∷ others i

-- Once the digits of the rest are written too, those of all the bytes are.
pub record HasRestToWrite {W : Type 0} (took : W → List ℕ → W → Type 0) (start : Formatter W) (bytes : List ℕ)
    (now : Formatter W) (rest : List ℕ) : Type 0 where
  pub plain : IsPlainFormatter now
  pub whole : (end : Formatter W) → HasWritten took now (hex_of rest) end → HasWritten took start (hex_of bytes) end

pub rest_after_block : {W : Type 0} (took : W → List ℕ → W → Type 0) (start f g : Formatter W)
    (bytes rest block after : List ℕ)
    → block ++ after ≡ rest → HasRestToWrite took start bytes f rest → HasWritten took f (hex_of block) g
    → HasRestToWrite took start bytes g after
rest_after_block took start f g bytes rest block after cut before written =
    let digits = sym (hex_of-append block after) ∙ ap hex_of cut in
    record {
      plain = written.plain;
      whole = λ end more. before.whole end
          (has_written_of_eq _ _ _ _ _ digits (has_written_append _ _ _ _ _ _ written more));
    }

-- Bytes of which each passes the test are ASCII.
ascii_by_test : (bytes : List ℕ) → list_all (λ byte. nat_lt byte 128) bytes ≡ true → IsAscii bytes
ascii_by_test [] pass = IsAscii-nil
ascii_by_test (byte ∷ bytes) pass =
    let parts = and_parts (nat_lt byte 128) (list_all (λ b. nat_lt b 128) bytes) pass in
    IsAscii-cons byte bytes (ltb-true byte 128 parts.0) (ascii_by_test bytes parts.1)

-- The table's digits are ASCII.
pub lower_digits-ascii : IsAscii lower_digits
lower_digits-ascii = ascii_by_test lower_digits refl
