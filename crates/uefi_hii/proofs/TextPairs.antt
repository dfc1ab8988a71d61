-- The first pair of a text: where the text may be cut, and the parts between.
use Rattle.std.proofs.Common.{◌≡◌, ℕ, ◌+◌, ◌-◌, ◌<◌, List, [], ◌∷◌, ◌++◌, length, get_or, take, drop, refl, sym, ◌∙◌}
use Rattle.std.proofs.Common.{ap, append_assoc, append-nil, arith, inl, inr, lit<}
use Rattle.std.specs.Prelude.{◌==◌, Option, Some, None}
use Rattle.std.specs.List.{position_or_len, before_first, after_first, slice_range}
use Rattle.std.specs.Str.{IsCharBoundary, IsUtf8}
use Rattle.std.proofs.lemmas.Bool.{cases_lt, eqb-true, le-ltb, lt-ltb}
use Rattle.std.proofs.lemmas.List.{drop_all, drop_at, drop_more, get_or_at, length-append, length-drop, take_all}
use Rattle.std.proofs.lemmas.List.{take_at, take-append-drop}
use Rattle.std.proofs.lemmas.List.Sums.{passes_at_first, split_at_first}
use Rattle.std.proofs.lemmas.Str.{IsCharBoundary-after_ascii, IsCharBoundary-before_ascii, IsCharBoundary-end}
use Rattle.uefi_hii.specs.Pairs.{Pair, ampersand, pair_of}
use Rattle.uefi_hii.specs.private.Finding.{parts_at}
use Rattle.uefi_hii.proofs.Pieces.{is_ampersand}

abbrev equals_sign : ℕ
equals_sign = 61

-- A text may be cut before an ASCII byte and at its end, and after an ASCII byte.
cut_before : (text front tail : List ℕ) (n : ℕ) → text ≡ front ++ tail → length front ≡ n → get_or tail 0 0 < 128
    → IsCharBoundary text n
cut_before text front [] n whole long ascii =
    rw (← long, whole, append-nil front) (IsCharBoundary-end front)
cut_before text front (byte ∷ tail) n whole long ascii =
    IsCharBoundary-before_ascii text n (omega (arith, ap length whole, length-append front (byte ∷ tail)))
    (rw (whole, get_or_at front byte tail 0 n long) ascii)

cut_after : (text front tail : List ℕ) (byte : ℕ) → text ≡ front ++ byte ∷ tail → byte < 128 → IsUtf8 text
    → IsCharBoundary text (length front + 1)
cut_after text front tail byte whole ascii utf8 =
    IsCharBoundary-after_ascii text (length front) utf8
    (omega (arith, ap length whole, length-append front (byte ∷ tail)))
    (rw (whole, get_or_at front byte tail 0 (length front) refl) ascii)

-- The part of a text between two indices.
slice_is : (text front part tail : List ℕ) (n m : ℕ) → text ≡ front ++ (part ++ tail) → length front ≡ n
    → m ≡ n + length part → slice_range text n m ≡ part
slice_is text front part tail n m whole long end =
    rw (whole, drop_at front (part ++ tail) n long) (take_at part tail (m - n) (omega arith))

-- What stands behind the first of two parts: the byte between them and the second, if there is one.
abbrev behind : ℕ → Option (List ℕ) → List ℕ
behind byte None = []
behind byte (Some part) = byte ∷ part

-- The byte at which bytes are cut in two.
first_is : (byte : ℕ) (bytes : List ℕ) → position_or_len (λ c. c == byte) bytes < length bytes
    → get_or bytes (position_or_len (λ c. c == byte) bytes) 0 ≡ byte
first_is byte bytes within = eqb-true _ byte (passes_at_first (λ c. c == byte) bytes 0 within)

joined : (byte : ℕ) (bytes : List ℕ) → bytes ≡ (parts_at byte bytes).key ++ behind byte (parts_at byte bytes).value
joined byte bytes = elim (cases_lt (position_or_len (λ c. c == byte) bytes) (length bytes)) [
  | inl within ↦
      split_at_first (λ c. c == byte) bytes 0 within ∙ rw (first_is byte bytes within, lt-ltb _ (length bytes) within)
  | inr past ↦ rw (le-ltb _ (length bytes) past) (sym (append-nil _ ∙ take_all _ bytes past))
]

-- The end of the first piece. Behind it an ampersand comes, if anything does.
abbrev end_of_piece : List ℕ → ℕ
end_of_piece text = position_or_len is_ampersand text

tail_ascii : (text : List ℕ) → get_or (drop (end_of_piece text) text) 0 0 < 128
tail_ascii text = elim (cases_lt (end_of_piece text) (length text)) [
  | inl within ↦ rw (drop_more text (end_of_piece text) 0 within, first_is ampersand text within) (lit< tt)
  | inr past ↦ rw (drop_all (end_of_piece text) text past) (lit< tt)
]

value_ascii : (value : Option (List ℕ)) (tail : List ℕ) → get_or tail 0 0 < 128
    → get_or (behind equals_sign value ++ tail) 0 0 < 128
value_ascii None tail ascii = ascii
value_ascii (Some value) tail ascii = lit< tt

module _ (bytes text key : List ℕ) (value : Option (List ℕ)) (same : bytes ≡ text)
    (pair : record { key = key; value = value } ≡ pair_of (before_first is_ampersand bytes)) where
  -- The text is the key, the value and what stands behind the piece.
  whole : text ≡ key ++ (behind equals_sign value ++ drop (end_of_piece text) text)
  whole =
      sym (take-append-drop (end_of_piece text) text)
      ∙ ap (λ piece. piece ++ drop (end_of_piece text) text)
      (joined equals_sign (before_first is_ampersand text)
      ∙ ap (λ (p : Pair). p.key ++ behind equals_sign p.value) (sym (rw same at pair)))
      ∙ append_assoc key (behind equals_sign value) (drop (end_of_piece text) text)

  -- The key ends at the first equals sign of the piece, or where the piece does.
  pub key_end : IsCharBoundary text (length key)
  key_end = cut_before text key _ (length key) whole refl (value_ascii value _ (tail_ascii text))

  pub key_is : slice_range text 0 (length key) ≡ key
  key_is = slice_is text [] key _ 0 (length key) whole refl (omega arith)

  -- The value begins after the equals sign, and ends where the piece does.
  module _ (part : List ℕ) (is : value ≡ Some part) where
    with_value : text ≡ key ++ equals_sign ∷ (part ++ drop (end_of_piece text) text)
    with_value = rw is at whole

    pub value_start : IsUtf8 text → IsCharBoundary text (length key + 1)
    value_start = cut_after text key _ equals_sign with_value (lit< tt)

    pub value_end : IsCharBoundary text (length key + 1 + length part)
    value_end =
        cut_before text (key ++ equals_sign ∷ part) _ (length key + 1 + length part)
        (with_value ∙ sym (append_assoc key (equals_sign ∷ part) _))
        (omega (arith, length-append key (equals_sign ∷ part))) (tail_ascii text)

    pub value_is : slice_range text (length key + 1) (length key + 1 + length part) ≡ part
    value_is =
        slice_is text (key ++ equals_sign ∷ []) part _ (length key + 1) (length key + 1 + length part)
        (with_value ∙ sym (append_assoc key (equals_sign ∷ []) _))
        (omega (arith, length-append key (equals_sign ∷ []))) refl

-- What is left of the text begins after the piece's ampersand, or where the text ends.
module _ (bytes text rest : List ℕ) (same : bytes ≡ text) (left : rest ≡ after_first is_ampersand bytes) where
  in_text : text ≡ take (end_of_piece text + 1) text ++ rest
  in_text = rw (left, same, take-append-drop (end_of_piece text + 1) text)

  pub rest_start : IsUtf8 text → IsCharBoundary text (length text - length rest)
  rest_start utf8 =
      let long : length rest ≡ length text - (end_of_piece text + 1) =
      rw (left, same, length-drop (end_of_piece text + 1) text) in
      elim (cases_lt (end_of_piece text) (length text)) [
        | inl within ↦
            let start : length text - length rest ≡ end_of_piece text + 1 = omega arith in
            let ascii : get_or text (end_of_piece text) 0 < 128 = rw (first_is ampersand text within) (lit< tt) in
            rw start (IsCharBoundary-after_ascii text (end_of_piece text) utf8 within ascii)
        | inr past ↦
            let start : length text - length rest ≡ length text = omega arith in rw start (IsCharBoundary-end text)
      ]

  pub rest_is : drop (length text - length rest) text ≡ rest
  rest_is =
      let front : List ℕ = take (end_of_piece text + 1) text in
      ap (drop (length text - length rest)) in_text
      ∙ drop_at front rest (length text - length rest) (omega (arith, ap length in_text, length-append front rest))
