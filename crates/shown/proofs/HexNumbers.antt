-- Numbers in hex, whose digits are filled in from the last one on.
use Rattle.std.proofs.Common.{◌≡◌, ℕ, zero, suc, ◌+◌, ◌-◌, ◌/◌, ◌%◌, ◌^◌, ◌<◌, ◌≤◌, ◌==◌, List, [], ◌∷◌, take, drop}
use Rattle.std.proofs.Common.{length, set, false, true, cond, refl, sym, ap, ◌∙◌, arith}
use Rattle.std.proofs.Math.ListN.{drop_of_length-le}
use Rattle.std.proofs.Math.Nat.{pow-suc}
use Rattle.std.proofs.lemmas.Bool.Decides.{nat_tests}
use Rattle.std.proofs.lemmas.List.{drop-set, length-set, take_rest}
use Rattle.std.proofs.lemmas.Str.Ascii.{IsAscii-nil, IsAscii-cons}
use Rattle.std.specs.Fmt.{digit_glyph, digits, digits_onto}
use Rattle.std.specs.Str.{IsAscii}
use Rattle.shown.specs.HexText.{hex_number}

-- The digits of a number, of which the last ones are there already.
unfoldable pub digits_before : ℕ → ℕ → List ℕ → List ℕ
digits_before count n last = digits_onto count 16 false n last

-- One digit more, where more are to come; and the first digit.
digits_before-more : (count n : ℕ) (last : List ℕ) → 16 ≤ n
    → digits_before (suc count) n last ≡ digits_before count (n / 16) (digit_glyph false (n % 16) ∷ last)
unfolding digits_before
digits_before-more count n last more =
    let some : (n / 16 == 0) ≡ false = grind (arith, nat_tests) in
    ap (λ b. cond b (digit_glyph false (n % 16) ∷ last)
    (digits_onto count 16 false (n / 16) (digit_glyph false (n % 16) ∷ last))) some

digits_before-first : (count n : ℕ) (last : List ℕ) → n < 16
    → digits_before (suc count) n last ≡ digit_glyph false n ∷ last
unfolding digits_before
digits_before-first count n last few =
    let none : (n / 16 == 0) ≡ true = grind (arith, nat_tests) in
    let itself : n % 16 ≡ n = omega arith in
    ap (λ b. cond b (digit_glyph false (n % 16) ∷ last)
    (digits_onto count 16 false (n / 16) (digit_glyph false (n % 16) ∷ last))) none
    ∙ ap (λ d. digit_glyph false d ∷ last) itself

-- A digit is ASCII.
glyph-ascii : (d : ℕ) → d < 16 → digit_glyph false d < 128
glyph-ascii d small = grind (arith, nat_tests)

-- The rest of the number has digits for the room that is left.
pub record HasFilled (number rest start : ℕ) (text : List ℕ) : Type 0 where
  pub room : length text ≡ 18
  pub low : 3 ≤ start
  pub high : start ≤ 18
  pub fits : rest < 16 ^ (start - 2)
  pub ascii : IsAscii (drop start text)
  pub digits : digits_before (46 + start) rest (drop start text) ≡ digits 16 false number

-- If a digit is left, so is room for it.
fits_step : (left rest : ℕ) → 16 ≤ rest → rest < 16 ^ left → (2 ≤ left) × (rest / 16 < 16 ^ (left - 1))
fits_step zero rest more fits = absurd (omega arith)
fits_step (suc zero) rest more fits = absurd (omega arith)
fits_step (suc (suc left)) rest more fits =
    let power = pow-suc 16 (suc left) in
    let back : suc (suc left) - 1 ≡ suc left = omega arith in
    (omega arith, rw back (omega (arith, power)))

digits_before-all : (n : ℕ) → digits_before 64 n [] ≡ digits 16 false n
unfolding digits_before digits
digits_before-all n = refl

pub filled_start : (number : ℕ) (text : List ℕ) → number < 2 ^ 64 → length text ≡ 18 → HasFilled number number 18 text
filled_start number text fits room =
    let none : drop 18 text ≡ [] = drop_of_length-le text {i = 18} (omega arith) in
    record {
      room = room;
      low = omega arith;
      high = omega arith;
      fits = fits;
      ascii = rw none IsAscii-nil;
      digits = ap (digits_before 64 number) none ∙ digits_before-all number;
    }

pub filled_more : (number rest start : ℕ) (text : List ℕ) → 16 ≤ rest → HasFilled number rest start text
    → HasFilled number (rest / 16) (start - 1) (set text (start - 1) (digit_glyph false (rest % 16)))
filled_more number rest start text more filled =
    let step = fits_step (start - 2) rest more filled.fits in
    let in_text : start - 1 < length text = omega (arith, filled.room, filled.low, filled.high) in
    let next : start - 1 + 1 ≡ start = omega (arith, filled.low) in
    let cut : drop (start - 1) (set text (start - 1) (digit_glyph false (rest % 16)))
    ≡ digit_glyph false (rest % 16) ∷ drop start text =
    drop-set text (start - 1) (digit_glyph false (rest % 16)) in_text
    ∙ ap (λ (n : ℕ). digit_glyph false (rest % 16) ∷ drop n text) next in
    let count : 46 + start ≡ suc (46 + (start - 1)) = omega (arith, filled.low) in
    let less : start - 1 - 2 ≡ start - 2 - 1 = omega arith in
    record {
      room = length-set text (start - 1) (digit_glyph false (rest % 16)) ∙ filled.room;
      low = omega (arith, step.0);
      high = omega (arith, filled.high);
      fits = rw less step.1;
      ascii = rw cut (IsAscii-cons (digit_glyph false (rest % 16)) (drop start text)
          (glyph-ascii (rest % 16) (omega arith)) filled.ascii);
      digits = ap (digits_before (46 + (start - 1)) (rest / 16)) cut
          ∙ sym (digits_before-more (46 + (start - 1)) rest (drop start text) more)
          ∙ ap (λ (n : ℕ). digits_before n rest (drop start text)) (sym count) ∙ filled.digits;
    }

-- The bytes from an index on at which a digit was set.
drop-set_before : (text : List ℕ) (i j y : ℕ) → i + 1 ≡ j → i < length text → drop i (set text i y) ≡ y ∷ drop j text
drop-set_before text i j y next within = drop-set text i y within ∙ ap (λ (n : ℕ). y ∷ drop n text) next

-- What is at the end: the first digit, and `0x` before it.
abbrev ended_whole : ℕ → ℕ → List ℕ → List ℕ
ended_whole rest start text = set (set (set text (start - 1) (digit_glyph false rest)) (start - 2) 120) (start - 3) 48

abbrev pub ended : ℕ → ℕ → List ℕ → List ℕ
ended rest start text = take (18 - (start - 3)) (drop (start - 3) (ended_whole rest start text))

ended-parts : (number rest start : ℕ) (text : List ℕ) → HasFilled number rest start text
    → ended rest start text ≡ 48 ∷ 120 ∷ digit_glyph false rest ∷ drop start text
ended-parts number rest start text filled =
    let digit : ℕ = digit_glyph false rest in
    let one : List ℕ = set text (start - 1) digit in
    let two : List ℕ = set one (start - 2) 120 in
    let length_one : length one ≡ 18 = length-set text (start - 1) digit ∙ filled.room in
    let length_two : length two ≡ 18 = length-set one (start - 2) 120 ∙ length_one in
    let length_three : length (set two (start - 3) 48) ≡ 18 = length-set two (start - 3) 48 ∙ length_two in
    ap (λ (n : ℕ). take (n - (start - 3)) (drop (start - 3) (set two (start - 3) 48))) (sym length_three)
    ∙ take_rest (set two (start - 3) 48) (start - 3)
    ∙ drop-set_before two (start - 3) (start - 2) 48 (omega (arith, filled.low))
    (omega (arith, length_two, filled.high))
    ∙ ap (λ l. 48 ∷ l) (drop-set_before one (start - 2) (start - 1) 120 (omega (arith, filled.low))
    (omega (arith, length_one, filled.high)))
    ∙ ap (λ l. 48 ∷ 120 ∷ l) (drop-set_before text (start - 1) start digit (omega (arith, filled.low))
    (omega (arith, filled.room, filled.high, filled.low)))

pub ended-ascii : (number rest start : ℕ) (text : List ℕ) → rest < 16 → HasFilled number rest start text
    → IsAscii (ended rest start text)
ended-ascii number rest start text few filled =
    let digits : List ℕ = digit_glyph false rest ∷ drop start text in
    let ascii = IsAscii-cons (digit_glyph false rest) (drop start text) (glyph-ascii rest few) filled.ascii in
    rw (ended-parts number rest start text filled)
    (IsAscii-cons 48 (120 ∷ digits) (omega arith) (IsAscii-cons 120 digits (omega arith) ascii))

pub ended-text : (number rest start : ℕ) (text : List ℕ) → rest < 16 → HasFilled number rest start text
    → ended rest start text ≡ hex_number number
unfolding hex_number
ended-text number rest start text few filled =
    let count : 46 + start ≡ suc (45 + start) = omega arith in
    let first = sym (digits_before-first (45 + start) rest (drop start text) few)
    ∙ ap (λ (n : ℕ). digits_before n rest (drop start text)) (sym count) ∙ filled.digits in
    ended-parts number rest start text filled ∙ ap (λ l. 48 ∷ 120 ∷ l) first
