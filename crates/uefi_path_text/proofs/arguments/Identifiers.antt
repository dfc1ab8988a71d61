-- Compressed EISA identifiers by their characters.
use Rattle.std.proofs.Common.{◌≡◌, ◌≤◌, ◌<◌, ◌+◌, ◌*◌, ◌-◌, ℕ, true, false, ltb, eqb, ◌&&◌, List, [], ◌∷◌, length, get_or, take, drop, refl, arith, inl, inr}
use Rattle.std.specs.List.{list_all}
use Rattle.std.specs.Char.{digit_value}
use Rattle.std.specs.Str.Parse.{digits_value}
use Rattle.std.proofs.lemmas.Bool.{and_parts, eqb-true, lt-ltb, le-ltb, cases_lt, false≢true}
use Rattle.std.proofs.lemmas.List.{length-take, length-drop, get_or-take, get_or-drop}
use Rattle.uefi_path_text.specs.parse.Values.{is_eisa, is_eisa_letter, is_hex_digit, byte_of_digits}
use Rattle.uefi_path_text.specs.private.FromText.{fits_eisa}
use Rattle.uefi_path_text.proofs.arguments.Elements.{list_all-get_or}

-- The first three characters are letters.
pub letter_at : (k c : ℕ) → k < 3 → fits_eisa k c ≡ is_eisa_letter c
letter_at k c few = let e : ltb k 3 ≡ true = lt-ltb k 3 few in rw e refl

-- The next four characters are hex digits.
pub digit_at : (k c : ℕ) → 3 ≤ k → k < 7 → fits_eisa k c ≡ is_hex_digit c
digit_at k c past few =
    let e : ltb k 3 ≡ false = le-ltb k 3 past in
    let f : ltb k 7 ≡ true = lt-ltb k 7 few in
    rw (e, f) refl

-- An identifier has seven characters.
pub length_from_is_eisa : (text : List ℕ) → is_eisa text ≡ true → length text ≡ 7
length_from_is_eisa text is =
    let front = and_parts (eqb (length text) 7 && list_all is_eisa_letter (take 3 text)) (list_all is_hex_digit (drop 3 text)) is in
    eqb-true (length text) 7 (and_parts (eqb (length text) 7) (list_all is_eisa_letter (take 3 text)) front.0).0

-- Each character of an identifier fits.
pub fits_from_is_eisa : (text : List ℕ) (k : ℕ) → is_eisa text ≡ true → k < length text → fits_eisa k (get_or text k 0) ≡ true
fits_from_is_eisa text k is within =
    let seven : length text ≡ 7 = length_from_is_eisa text is in
    let front = and_parts (eqb (length text) 7 && list_all is_eisa_letter (take 3 text)) (list_all is_hex_digit (drop 3 text)) is in
    let letters = (and_parts (eqb (length text) 7) (list_all is_eisa_letter (take 3 text)) front.0).1 in
    elim (cases_lt k 3) as (λ _. fits_eisa k (get_or text k 0) ≡ true) [
      | inl below ↦ rw (letter_at k (get_or text k 0) below, ← get_or-take 3 text k 0 below) (list_all-get_or is_eisa_letter (take 3 text) k 0 (omega (arith, length-take 3 text)) letters)
      | inr past ↦
          let e : 3 + (k - 3) ≡ k = omega arith in
          let at : get_or (drop 3 text) (k - 3) 0 ≡ get_or text k 0 = rw e at (get_or-drop 3 text (k - 3) 0) in
          rw (digit_at k (get_or text k 0) past (omega arith), ← at) (list_all-get_or is_hex_digit (drop 3 text) (k - 3) 0 (omega (arith, length-drop 3 text)) front.1)
    ]

-- Four digits by place are two bytes by place.
sum_of_four : (a b c d : ℕ) → (((0 * 16 + a) * 16 + b) * 16 + c) * 16 + d ≡ (16 * a + b) * 256 + (16 * c + d)
sum_of_four a b c d = omega arith

-- The number of four hex digits.
four_digits : (text : List ℕ) → length text ≡ 4 → digits_value 16 text ≡ byte_of_digits (get_or text 0 0) (get_or text 1 0) * 256 + byte_of_digits (get_or text 2 0) (get_or text 3 0)
four_digits [] four = absurd (omega arith)
four_digits (a ∷ []) four = absurd (omega arith)
four_digits (a ∷ b ∷ []) four = absurd (omega arith)
four_digits (a ∷ b ∷ c ∷ []) four = absurd (omega arith)
four_digits (a ∷ b ∷ c ∷ d ∷ []) four = sum_of_four (digit_value a) (digit_value b) (digit_value c) (digit_value d)
four_digits (a ∷ b ∷ c ∷ d ∷ e ∷ text) four = absurd (omega arith)

-- The digits of an identifier are two bytes.
pub digits_of_eisa : (text : List ℕ) → length text ≡ 7 → digits_value 16 (drop 3 text) ≡ byte_of_digits (get_or text 3 0) (get_or text 4 0) * 256 + byte_of_digits (get_or text 5 0) (get_or text 6 0)
digits_of_eisa text seven =
    rw (← get_or-drop 3 text 0 0, ← get_or-drop 3 text 1 0, ← get_or-drop 3 text 2 0, ← get_or-drop 3 text 3 0) (four_digits (drop 3 text) (omega (arith, length-drop 3 text)))

-- A character that fits is one of the first seven.
pub within_from_fits : (k c : ℕ) → fits_eisa k c ≡ true → k < 7
within_from_fits k c fits =
    elim (cases_lt k 7) as (λ _. k < 7) [
      | inl within ↦ within
      | inr past ↦
          let e : ltb k 3 ≡ false = le-ltb k 3 (omega arith) in
          let f : ltb k 7 ≡ false = le-ltb k 7 past in
          absurd (false≢true (rw (e, f) at fits))
    ]

-- What `read_eisa` needs.
pub ruleset identifiers = (length_from_is_eisa, fits_from_is_eisa)
