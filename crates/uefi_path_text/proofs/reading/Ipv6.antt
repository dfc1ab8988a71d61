-- IPv6 addresses are read as the bytes that they were written of.
use Rattle.std.proofs.Common.{◌≡◌, ℕ, ◌+◌, ◌*◌, ◌/◌, ◌%◌, ◌<◌, suc, ◌==◌, List, [], ◌∷◌, ◌++◌, length, true, false, not, refl, arith, slice_index, ap, ◌∙◌, Some, None, ltb-true, eq-eqb, sym, cond}
use Rattle.std.specs.Fmt.{digit_glyph}
use Rattle.std.specs.Int.{byte_at, bytes_high_first}
use Rattle.std.specs.Char.{digit_value}
use Rattle.std.specs.Option.{option_map}
use Rattle.std.specs.Str.Parse.{AllDigits, digits_value}
use Rattle.std.proofs.lemmas.Bool.{and_from, and_left, not-true, cond-true, cond-false, agree_below_at}
use Rattle.uefi_path_text.specs.form.Pieces.{pieces_text, ipv6_pieces}
use Rattle.uefi_path_text.specs.text.Arguments.{is_argument}
use Rattle.uefi_path_text.specs.parse.Parts.{cut_at}
use Rattle.uefi_path_text.specs.parse.Ipv6.{is_group, group_bytes, followed, groups_in, gap_in, sixteen_bytes, by_gap, ipv6_in}
use Rattle.uefi_path_text.specs.parse.Values.{bytes_in}
use Rattle.uefi_path_text.specs.declared.form.argument.Argument.TheVariants.{Ipv6}
use Rattle.uefi_base.specs.LittleEndian.{AreBytes}
use Rattle.uefi_path_text.proofs.reading.ByteLists.{listed}
use Rattle.uefi_path_text.proofs.reading.CutTexts.{is_without, cut_whole, cut_first}
use Rattle.uefi_path_text.proofs.reading.HexDigits.{glyph_digit, glyph_value}
use Rattle.uefi_path_text.proofs.reading.Numerals.{numeral_passes}
use Rattle.uefi_path_text.proofs.reading.Pieces.{pieces_argument}

pub ipv6_argument : (bytes : List ℕ) → AreBytes bytes → is_argument (pieces_text bytes ipv6_pieces) ≡ true
ipv6_argument bytes each = pieces_argument bytes ipv6_pieces each refl

-- A digit is no colon.
not_colon : (d : ℕ) → d < 16 → not (digit_glyph true d == 0x3a) ≡ true
not_colon d small = agree_below_at (λ e. not (digit_glyph true e == 0x3a)) (λ e. true) 16 d refl small

-- A group: the four digits of two bytes.
abbrev group : List ℕ → ℕ → List ℕ
group v k =
    digit_glyph true (slice_index v k / 16) ∷ digit_glyph true (slice_index v k % 16)
    ∷ digit_glyph true (slice_index v (suc k) / 16) ∷ digit_glyph true (slice_index v (suc k) % 16) ∷ []

-- The digits of a byte.
record IsByte (b : ℕ) : Type 0 where
  small : b < 256
  high : b / 16 < 16
  low : b % 16 < 16

is_byte : (v : List ℕ) (k : ℕ) → AreBytes v → IsByte (slice_index v k)
is_byte v k each =
    let small : slice_index v k < 256 = each k in record { small = small; high = omega arith; low = omega arith }

is_digit : (d : ℕ) → d < 16 → digit_value (digit_glyph true d) < 16
is_digit d small = ltb-true _ 16 (glyph_digit d small)

digits : (v : List ℕ) (k : ℕ) → AreBytes v → AllDigits 16 (group v k)
digits v k each =
    let a = is_byte v k each in
    let b = is_byte v (suc k) each in
    (is_digit _ a.high, (is_digit _ a.low, (is_digit _ b.high, (is_digit _ b.low, tt))))

no_colon : (v : List ℕ) (k : ℕ) → AreBytes v → is_without 0x3a (group v k) ≡ true
no_colon v k each =
    let a = is_byte v k each in
    let b = is_byte v (suc k) each in
    and_from _ _ (not_colon _ a.high) (and_from _ _ (not_colon _ a.low)
    (and_from _ _ (not_colon _ b.high) (and_from _ _ (not_colon _ b.low) refl)))

-- It is read as the two bytes.
group_passes : (v : List ℕ) (k : ℕ) → AreBytes v → is_group (group v k) ≡ true
group_passes v k each = and_from _ _ (numeral_passes 16 (group v k) (omega arith, digits v k each)) refl

group_value : (v : List ℕ) (k : ℕ) → AreBytes v → digits_value 16 (group v k) ≡ slice_index v k * 256 + slice_index v (suc k)
group_value v k each =
    let a = is_byte v k each in
    let b = is_byte v (suc k) each in
    omega (arith, glyph_value _ a.high, glyph_value _ a.low, glyph_value _ b.high, glyph_value _ b.low)

high_byte : (a b : ℕ) → a < 256 → b < 256 → byte_at 1 (a * 256 + b) ≡ a
high_byte a b first second = omega arith

low_byte : (a b : ℕ) → b < 256 → byte_at 0 (a * 256 + b) ≡ b
low_byte a b second = omega arith

group_is : (v : List ℕ) (k : ℕ) → AreBytes v → group_bytes (group v k) ≡ slice_index v k ∷ slice_index v (suc k) ∷ []
group_is v k each =
    let first = high_byte (slice_index v k) (slice_index v (suc k)) (each k) (each (suc k)) in
    let second = low_byte (slice_index v k) (slice_index v (suc k)) (each (suc k)) in
    ap (bytes_high_first 2) (group_value v k each) ∙ (λ i. first i ∷ second i ∷ [])

-- The groups that begin at some bytes, their bytes, and their text.
abbrev groups_at : List ℕ → List ℕ → List (List ℕ)
groups_at v [] = []
groups_at v (k ∷ ks) = group v k ∷ groups_at v ks

abbrev bytes_at : List ℕ → List ℕ → List ℕ
bytes_at v [] = []
bytes_at v (k ∷ ks) = slice_index v k ∷ slice_index v (suc k) ∷ bytes_at v ks

abbrev text_at : List ℕ → ℕ → List ℕ → List ℕ
text_at v k [] = group v k
text_at v k (l ∷ ks) = group v k ++ 0x3a ∷ text_at v l ks

groups_read : (v ks : List ℕ) → AreBytes v → groups_in true (groups_at v ks) ≡ Some (bytes_at v ks)
groups_read v [] each = refl
groups_read v (k ∷ ks) each =
    cond-true (is_group (group v k)) _ _ (group_passes v k each)
    ∙ (λ i. followed (group_is v k each i) (groups_read v ks each i))

groups_cut : (v : List ℕ) (k : ℕ) (ks : List ℕ) → AreBytes v → cut_at 0x3a (text_at v k ks) ≡ groups_at v (k ∷ ks)
groups_cut v k [] each = cut_whole 0x3a (group v k) (no_colon v k each)
groups_cut v k (l ∷ ks) each =
    cut_first 0x3a (group v k) (text_at v l ks) (no_colon v k each) ∙ ap (λ parts. group v k ∷ parts) (groups_cut v l ks each)

-- There is no `::` in them.
digit_then : (d : ℕ) (text : List ℕ) → d < 16 → gap_in text ≡ None → gap_in (digit_glyph true d ∷ text) ≡ None
digit_then d text small none =
    cond-false _ _ _ (and_left _ _ (not-true _ (not_colon d small))) ∙ ap (option_map suc) none

colon_then : (d : ℕ) (text : List ℕ) → d < 16 → gap_in (digit_glyph true d ∷ text) ≡ None
    → gap_in (0x3a ∷ digit_glyph true d ∷ text) ≡ None
colon_then d text small none = cond-false _ _ _ (not-true _ (not_colon d small)) ∙ ap (option_map suc) none

group_then : (v : List ℕ) (k : ℕ) (text : List ℕ) → AreBytes v → gap_in text ≡ None
    → (gap_in (group v k ++ text) ≡ None) × (gap_in (0x3a ∷ (group v k ++ text)) ≡ None)
group_then v k text each none =
    let a = is_byte v k each in
    let b = is_byte v (suc k) each in
    let last : List ℕ = digit_glyph true (slice_index v (suc k) % 16) ∷ text in
    let third : List ℕ = digit_glyph true (slice_index v (suc k) / 16) ∷ last in
    let second : List ℕ = digit_glyph true (slice_index v k % 16) ∷ third in
    let here : gap_in (group v k ++ text) ≡ None =
    digit_then _ second a.high (digit_then _ third a.low (digit_then _ last b.high (digit_then _ text b.low none))) in
    (here, colon_then _ second a.high here)

no_gap : (v : List ℕ) (k : ℕ) (ks : List ℕ) → AreBytes v
    → (gap_in (text_at v k ks) ≡ None) × (gap_in (0x3a ∷ text_at v k ks) ≡ None)
no_gap v k [] each = group_then v k [] each refl
no_gap v k (l ∷ ks) each = group_then v k (0x3a ∷ text_at v l ks) each (no_gap v l ks each).1

-- A text of sixteen bytes without `::`.
parts_read : (text bytes : List ℕ) (parts : List (List ℕ)) → gap_in text ≡ None → (length text == 0) ≡ false
    → cut_at 0x3a text ≡ parts → groups_in true parts ≡ Some bytes → length bytes ≡ 16 → bytes_in Ipv6 text ≡ Some bytes
unfolding bytes_in ipv6_in
parts_read text bytes parts gap some cut read long =
    ap (by_gap text) gap
    ∙ ap (λ test. sixteen_bytes (groups_in true (cond test [] (cut_at 0x3a text)))) some
    ∙ ap (λ l. sixteen_bytes (groups_in true l)) cut
    ∙ ap sixteen_bytes read
    ∙ cond-true _ _ _ (eq-eqb (length bytes) 16 long)

-- The address is the text of eight groups.
abbrev starts : List ℕ
starts = 2 ∷ 4 ∷ 6 ∷ 8 ∷ 10 ∷ 12 ∷ 14 ∷ []

address_is : (v : List ℕ) → text_at v 0 starts ≡ pieces_text v ipv6_pieces
address_is v = refl

pub ipv6_read : (bytes : List ℕ) → length bytes ≡ 16 → AreBytes bytes → bytes_in Ipv6 (pieces_text bytes ipv6_pieces) ≡ Some bytes
ipv6_read bytes long each =
    let whole : bytes_at bytes (0 ∷ starts) ≡ bytes = listed 16 bytes long in
    ap (bytes_in Ipv6) (sym (address_is bytes))
    ∙ parts_read (text_at bytes 0 starts) bytes (groups_at bytes (0 ∷ starts)) (no_gap bytes 0 starts each).0 refl
    (groups_cut bytes 0 starts each) (groups_read bytes (0 ∷ starts) each ∙ ap Some whole) long
