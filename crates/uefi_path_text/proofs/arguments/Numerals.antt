-- When a text is no number below a limit, and the greatest number of some bytes.
use Rattle.std.proofs.Common.{◌≡◌, ◌≤◌, ◌<◌, ◌+◌, ◌-◌, ◌*◌, ◌/◌, ◌^◌, ℕ, Bool, true, false, ltb, eqb, not, IsTrue, zero, suc, List, length, get_or, take, refl, arith, None}
use Rattle.std.specs.List.{list_all}
use Rattle.std.specs.Char.{is_digit, digit_value}
use Rattle.std.specs.Str.Parse.{digits_value}
use Rattle.std.proofs.lemmas.Int.Digits.{digits_value_more}
use Rattle.std.proofs.lemmas.Str.Parse.{digits_value-take-le}
use Rattle.std.proofs.lemmas.List.Folds.{list_all_more}
use Rattle.std.proofs.lemmas.Bool.Decides.{nat_tests}
use Rattle.std.proofs.lemmas.Bool.{and_parts}
use Rattle.uefi_path_text.proofs.arguments.Elements.{list_all-get_or}
use Rattle.uefi_path_text.specs.parse.Parts.{given, is_numeral, numeral}
use Rattle.uefi_path_text.specs.parse.Values.{below}

-- A number that isn't given, or isn't below the limit, is none below it.
none_below : (limit : ℕ) (test : Bool) (n : ℕ) → (test ≡ true → limit ≤ n) → below limit (given test n) ≡ None
none_below limit true n h =
    let at_least : limit ≤ n = h refl in
    let e : ltb n limit ≡ false = grind (arith, nat_tests) in
    rw e refl
none_below limit false n h = refl

-- A numeral has a digit at each index.
digit_in_numeral : (radix i : ℕ) (text : List ℕ) → i < length text → is_numeral radix text ≡ true → IsTrue (is_digit (get_or text i 0) radix)
digit_in_numeral radix i text within h =
    list_all-get_or (λ c. is_digit c radix) text i 0 within (and_parts (not (eqb (length text) 0)) (list_all (λ c. is_digit c radix) text) h).1

-- The greatest number of some bytes.
pub greatest_of_bytes : (size : ℕ) → 1 ≤ size → size ≤ 8 → 18446744073709551615 / 2 ^ (64 - 8 * size) + 1 ≡ 2 ^ (8 * size)
greatest_of_bytes zero low high = absurd (omega arith)
greatest_of_bytes (suc zero) low high = refl
greatest_of_bytes (suc (suc zero)) low high = refl
greatest_of_bytes (suc (suc (suc zero))) low high = refl
greatest_of_bytes (suc (suc (suc (suc zero)))) low high = refl
greatest_of_bytes (suc (suc (suc (suc (suc zero))))) low high = refl
greatest_of_bytes (suc (suc (suc (suc (suc (suc zero)))))) low high = refl
greatest_of_bytes (suc (suc (suc (suc (suc (suc (suc zero))))))) low high = refl
greatest_of_bytes (suc (suc (suc (suc (suc (suc (suc (suc zero)))))))) low high = refl
greatest_of_bytes (suc (suc (suc (suc (suc (suc (suc (suc (suc n))))))))) low high = absurd (omega arith)

-- All are digits, and the number is theirs and small enough.
pub record HasRead (radix most number : ℕ) (digits : List ℕ) : Type 0 where
  pub are_digits : list_all (λ c. is_digit c radix) digits ≡ true
  pub value : number ≡ digits_value radix digits
  pub few : number ≤ most

-- No digit is read yet.
pub nothing_read : (radix most : ℕ) (text : List ℕ) → HasRead radix most 0 (take 0 text)
nothing_read radix most text = record { are_digits = refl; value = refl; few = omega arith }

-- One more digit is read.
pub read_one_more : (radix most number next i : ℕ) (text : List ℕ) → i < length text → HasRead radix most number (take i text) → IsTrue (is_digit (get_or text i 0) radix) → next ≡ number * radix + digit_value (get_or text i 0) → next ≤ most → HasRead radix most next (take (i + 1) text)
read_one_more radix most number next i text within read digit is few = record {
  are_digits = rw (list_all_more (λ c. is_digit c radix) text i 0 within, read.are_digits) digit;
  value = rw (digits_value_more radix text i within, ← read.value) is;
  few = few;
}

-- A text is no number of at most `most` if the next digit makes more, or isn't one.
pub none_below_from_digit : (radix most number i : ℕ) (text : List ℕ) → 1 ≤ radix → i < length text → HasRead radix most number (take i text) → (IsTrue (is_digit (get_or text i 0) radix) → most < number * radix + digit_value (get_or text i 0)) → below (most + 1) (numeral radix text) ≡ None
none_below_from_digit radix most number i text low within read more =
    none_below (most + 1) (is_numeral radix text) (digits_value radix text) (λ is.
    let greater : most < number * radix + digit_value (get_or text i 0) = more (digit_in_numeral radix i text within is) in
    let longer : digits_value radix (take (i + 1) text) ≡ number * radix + digit_value (get_or text i 0) = rw read.value (digits_value_more radix text i within) in
    omega (arith, longer, digits_value-take-le radix text (i + 1) low))
