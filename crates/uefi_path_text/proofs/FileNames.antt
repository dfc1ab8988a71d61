-- The data of a file's name and the characters of it, one at a time.
use Rattle.std.proofs.Common.{◌≡◌, ℕ, suc, ◌+◌, ◌*◌, ◌<◌, ◌≤◌, ◌&&◌, List, [], ◌∷◌, ◌++◌, length, take, true, false, cond, arith, sym, ap, ◌∙◌, encode_utf8_all, append_assoc, ⊎_elim}
use Rattle.std.specs.List.{list_all, flat_map, prefix_len}
use Rattle.std.specs.Str.{IsUtf8, chars}
use Rattle.std.specs.Char.Escape.{encode_utf16}
use Rattle.std.proofs.Math.Utf8.{encode}
use Rattle.std.proofs.str.Utf16.{one_unit, two_units}
use Rattle.std.proofs.lemmas.Bool.{cases_lt}
use Rattle.std.proofs.lemmas.Grind.{flat_map-append}
use Rattle.std.proofs.lemmas.List.{length-append}
use Rattle.std.proofs.lemmas.Str.{chars_past_char, chars-nil}
use Rattle.uefi_base.specs.Buffer.{put_at}
use Rattle.uefi_base.specs.LittleEndian.{u16_bytes}
use Rattle.uefi_base.specs.Unaligned.{unit_bytes}
use Rattle.uefi_base.proofs.UnitsBack.{units_read_back}
use Rattle.uefi_base.proofs.Parts.{put_next}
use Rattle.uefi_path_text.specs.text.FileName.{is_name_character}
use Rattle.uefi_path_text.specs.parse.Nodes.{name_node}
use Rattle.uefi_path_text.proofs.reading.RepeatedValues.{length-put_at}

-- The data of a text: the units of its characters, and a NUL.
abbrev pub name_data : List ℕ → List ℕ
name_data text = (name_node text).payload

-- The characters before the first that a name can't have, in UTF-8.
abbrev pub named_front : List ℕ → List ℕ
named_front cs = encode_utf8_all (take (prefix_len is_name_character cs) cs)

-- A character has one unit or two.
pub units_counted : (c n : ℕ) → (c < 0x1_0000 → n ≡ 1) → (0x1_0000 ≤ c → n ≡ 2) → length (encode_utf16 c) ≡ n
units_counted c n one two =
    ⊎_elim (λ small. ap length (one_unit c small) ∙ sym (one small))
    (λ large. ap length (two_units c large) ∙ sym (two large)) (cases_lt c 0x1_0000)

-- The data of no characters are a NUL.
pub data_ends : (text : List ℕ) → length text ≡ 0 → name_data text ≡ 0 ∷ 0 ∷ []
data_ends [] none = ap (λ cs. unit_bytes (flat_map encode_utf16 cs ++ 0 ∷ [])) chars-nil
data_ends (b ∷ text) none = absurd (omega arith)

-- There is room for the NUL.
pub data_has_nul : (text : List ℕ) → 2 ≤ length (name_data text)
data_has_nul text =
    let units : List ℕ = flat_map encode_utf16 (chars text) in
    omega (arith, units_read_back.sized (units ++ 0 ∷ []), length-append units (0 ∷ []))

-- The index after another, as a list sees it.
add_one : (n : ℕ) → 1 + n ≡ suc n
add_one n = omega arith

-- A character that a name can have is one of those before the first that it can't have; another is the first.
front_starts : (c : ℕ) (cs : List ℕ) → is_name_character c ≡ true → named_front (c ∷ cs) ≡ encode c ++ named_front cs
front_starts c cs is =
    ap (λ b. encode_utf8_all (take (cond b (1 + prefix_len is_name_character cs) 0) (c ∷ cs))) is
    ∙ rw (add_one (prefix_len is_name_character cs))

front_none : (c : ℕ) (cs : List ℕ) → is_name_character c ≡ false → named_front (c ∷ cs) ≡ []
front_none c cs is = ap (λ b. encode_utf8_all (take (cond b (1 + prefix_len is_name_character cs) 0) (c ∷ cs))) is

-- A text that starts with a character.
module _ (text rest : List ℕ) (c : ℕ) (utf8 : IsUtf8 text) (starts : text ≡ encode c ++ rest) where
  pub data_starts : name_data text ≡ unit_bytes (encode_utf16 c) ++ name_data rest
  data_starts =
      let others : List ℕ = flat_map encode_utf16 (chars rest) in
      ap (λ cs. unit_bytes (flat_map encode_utf16 cs ++ 0 ∷ [])) (chars_past_char text rest c utf8 starts)
      ∙ ap unit_bytes (append_assoc (encode_utf16 c) others (0 ∷ []))
      ∙ flat_map-append u16_bytes (encode_utf16 c) (others ++ 0 ∷ [])

  -- The length of the data, with so many units of the character.
  pub length_starts : (n : ℕ) → length (encode_utf16 c) ≡ n → length (name_data text) ≡ 2 * n + length (name_data rest)
  length_starts n count = omega (
    arith,
    ap length data_starts,
    length-append (unit_bytes (encode_utf16 c)) (name_data rest),
    units_read_back.sized (encode_utf16 c),
  )

  -- Once the units of the character are put, the data of the rest are all that is left to put.
  pub rest_put : (end : ℕ) (units whole old now : List ℕ) → units ≡ encode_utf16 c
      → put_at end (name_data text) old ≡ whole → end + length (name_data text) ≤ length old
      → now ≡ put_at end (unit_bytes units) old
      → (put_at (end + 2 * length units) (name_data rest) now ≡ whole)
      × (end + 2 * length units + length (name_data rest) ≤ length now)
  rest_put end units whole old now same left room put =
      let sized : length (unit_bytes units) ≡ 2 * length units = units_read_back.sized units in
      let long = length_starts (length units) (ap length (sym same)) in
      let within : end + length (unit_bytes units) ≤ length old = omega arith in
      let kept : length now ≡ length old = ap length put ∙ length-put_at end (unit_bytes units) old within in
      let joined : unit_bytes units ++ name_data rest ≡ name_data text =
      ap (λ us. unit_bytes us ++ name_data rest) same ∙ sym data_starts in (
        ap (λ n. put_at (end + n) (name_data rest) now) (sym sized)
            ∙ ap (λ b. put_at (end + length (unit_bytes units)) (name_data rest) b) put
            ∙ put_next end (unit_bytes units) (name_data rest) old within ∙ ap (λ d. put_at end d old) joined ∙ left,
        omega arith,
      )

  -- The length of the text itself.
  pub rest_length : length text ≡ length (encode c) + length rest
  rest_length = ap length starts ∙ length-append (encode c) rest

  -- If a name can have the character, it is one more before the first that a name can't have.
  pub named_next : is_name_character c ≡ true
      → (list_all is_name_character (chars text) ≡ list_all is_name_character (chars rest))
      × (length (named_front (chars text)) ≡ length (encode c) + length (named_front (chars rest)))
  named_next is =
      let whole = chars_past_char text rest c utf8 starts in (
        ap (list_all is_name_character) whole ∙ ap (λ b. b && list_all is_name_character (chars rest)) is,
        ap (λ cs. length (named_front cs)) whole ∙ ap length (front_starts c (chars rest) is)
            ∙ length-append (encode c) (named_front (chars rest)),
      )

  -- If not, it is the first.
  pub other_next : is_name_character c ≡ false
      → (list_all is_name_character (chars text) ≡ false) × (length (named_front (chars text)) ≡ 0)
  other_next is =
      let whole = chars_past_char text rest c utf8 starts in (
        ap (list_all is_name_character) whole ∙ ap (λ b. b && list_all is_name_character (chars rest)) is,
        ap (λ cs. length (named_front cs)) whole ∙ ap length (front_none c (chars rest) is),
      )

-- A name can have all of no characters.
pub none_left : (text : List ℕ) → length text ≡ 0 → list_all is_name_character (chars text) ≡ true
none_left [] none = ap (list_all is_name_character) chars-nil
none_left (b ∷ text) none = absurd (omega arith)
