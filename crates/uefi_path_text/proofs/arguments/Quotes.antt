-- Texts in quotes by their characters.
use Rattle.std.proofs.Common.{◌≡◌, ◌≤◌, ◌<◌, ◌+◌, ◌-◌, ℕ, true, false, leb, eqb, ◌&&◌, List, length, get_or, take, drop, arith, inl, inr}
use Rattle.std.specs.List.{list_all}
use Rattle.std.proofs.lemmas.Bool.{and_parts, eqb-true, leb-true, false_from_ne_true, both_ways, cases_lt}
use Rattle.std.proofs.lemmas.List.{length-take, length-drop, get_or-take, get_or-drop, drop-take}
use Rattle.uefi_path_text.specs.text.SerialNumber.{is_serial_character}
use Rattle.uefi_path_text.specs.parse.Values.{is_quoted, unquoted}
use Rattle.uefi_path_text.proofs.arguments.Elements.{list_all-get_or}

-- What a text in quotes has.
pub record HasQuotes (text : List ℕ) : Type 0 where
  pub long : 2 ≤ length text
  pub first : get_or text 0 0 ≡ 0x22
  pub last : get_or text (length text - 1) 0 ≡ 0x22
  pub between : list_all is_serial_character (unquoted text) ≡ true

-- The test tells all four.
pub quotes_from_test : (text : List ℕ) → is_quoted text ≡ true → HasQuotes text
quotes_from_test text is =
    let whole = and_parts (leb 2 (length text) && eqb (get_or text 0 0) 0x22 && eqb (get_or text (length text - 1) 0) 0x22) (list_all is_serial_character (unquoted text)) is in
    let ends = and_parts (leb 2 (length text) && eqb (get_or text 0 0) 0x22) (eqb (get_or text (length text - 1) 0) 0x22) whole.0 in
    let front = and_parts (leb 2 (length text)) (eqb (get_or text 0 0) 0x22) ends.0 in
    record {
      long = leb-true 2 (length text) front.0;
      first = eqb-true (get_or text 0 0) 0x22 front.1;
      last = eqb-true (get_or text (length text - 1) 0) 0x22 ends.1;
      between = whole.1;
    }

-- The text between quotes.
pub unquoted_is : (text : List ℕ) → 2 ≤ length text → unquoted text ≡ take (length text - 2) (drop 1 text)
unquoted_is text long =
    let e : length text - 1 ≡ 1 + (length text - 2) = omega arith in
    rw e (drop-take 1 (length text - 2) text)

-- A character between the quotes is one of a serial number.
between_quotes : (text : List ℕ) (k : ℕ) → is_quoted text ≡ true → k + 2 < length text → is_serial_character (get_or (drop 1 text) k 0) ≡ true
between_quotes text k is within =
    let has : HasQuotes text = quotes_from_test text is in
    let all : list_all is_serial_character (take (length text - 2) (drop 1 text)) ≡ true = rw (unquoted_is text has.long) at has.between in
    let below : k < length text - 2 = omega arith in
    rw (← get_or-take (length text - 2) (drop 1 text) k 0 below)
    (list_all-get_or is_serial_character (take (length text - 2) (drop 1 text)) k 0 (omega (arith, length-take (length text - 2) (drop 1 text), length-drop 1 text)) all)

-- A text with a character that is none of a serial number before its end isn't in quotes.
pub no_quotes_around : (text : List ℕ) (i : ℕ) → i + 2 < length text → is_serial_character (get_or (drop 1 text) i 0) ≡ false → is_quoted text ≡ false
no_quotes_around text i before other =
    false_from_ne_true (is_quoted text) (λ is. both_ways (is_serial_character (get_or (drop 1 text) i 0)) other (between_quotes text i is before))

-- A text whose last character is no quote isn't in quotes.
pub no_quote_at_end : (text : List ℕ) (i : ℕ) → i + 2 ≡ length text → (get_or (drop 1 text) i 0 ≡ 0x22 → ⊥) → is_quoted text ≡ false
no_quote_at_end text i ends other =
    false_from_ne_true (is_quoted text) (λ is.
    let has : HasQuotes text = quotes_from_test text is in
    let place : length text - 1 ≡ 1 + i = omega arith in
    let last : get_or text (1 + i) 0 ≡ 0x22 = rw place at has.last in
    other (rw (get_or-drop 1 text i 0) last))

-- A text with a character that is neither a quote nor one of a serial number isn't in quotes.
pub no_quotes_at_other : (text : List ℕ) (i : ℕ) → i + 1 < length text → is_serial_character (get_or (drop 1 text) i 0) ≡ false → (get_or (drop 1 text) i 0 ≡ 0x22 → ⊥) → is_quoted text ≡ false
no_quotes_at_other text i within other no_quote =
    elim (cases_lt (i + 2) (length text)) as (λ _. is_quoted text ≡ false) [
      | inl before ↦ no_quotes_around text i before other
      | inr past ↦ no_quote_at_end text i (omega arith) no_quote
    ]
