-- The first zero among units.
use Rattle.std.proofs.Common.{◌≡◌, ◌≢◌, ℕ, suc, ◌+◌, ◌*◌, ◌/◌, ◌<◌, ◌≤◌, Bool, true, false, Option, Some, None, List}
use Rattle.std.proofs.Common.{[], ◌∷◌, length, get_or, take, drop, sym, ◌∙◌, ap, arith, cond, not, ltb, subst, refl}
use Rattle.std.specs.Prelude.{◌==◌}
use Rattle.std.specs.Option.{option_map}
use Rattle.std.specs.List.{position_from, position_or_len}
use Rattle.std.proofs.lemmas.Bool.Decides.{nat_tests}
use Rattle.std.proofs.lemmas.Grind.{common_steps}
use Rattle.std.proofs.lemmas.List.Sums.{position_or_len_is, fails_before_first, passes_at_first}
use Rattle.std.proofs.lemmas.Option.{cond_some}
use Rattle.std.proofs.lemmas.Bool.{ltb-true}
use Rattle.uefi_base.specs.Unaligned.{units_of}
use Rattle.uefi_base.proofs.UnitsOfBytes.{units_by_place}
use Rattle.uefi_records.specs.file.Name.{first_zero, unit_length}

-- An odd last byte is in no unit.
pub units_of_whole : (bytes whole : List ℕ) → whole ≡ take (length bytes / 2 * 2) bytes
    → units_of whole ≡ units_of bytes
units_of_whole bytes whole is =
    grind (arith, common_steps, units_by_place.front bytes (length bytes / 2), units_by_place.counted bytes)

-- No unit before the index is zero.
abbrev pub NoZeroBefore : ℕ → List ℕ → Type 0
NoZeroBefore index bytes =
    (unit_length * index ≤ length bytes)
    × (first_zero (units_of bytes) ≡ position_from (λ unit. unit == 0) index
    (units_of (drop (unit_length * index) bytes)))

-- The unit at the index is zero, and none before it is.
pub record IsFirstAt (units : List ℕ) (index : ℕ) : Type 0 where
  pub within : index < length units
  pub is_zero : get_or units index 0 ≡ 0
  pub before : (k : ℕ) → k < index → get_or units k 0 ≢ 0

-- A search returns how many items come before the first that passes, counted from the start, if one passes.
abbrev found_at : (ℕ → Bool) → ℕ → List ℕ → Option ℕ
found_at p start xs = cond (ltb (position_or_len p xs) (length xs)) (Some (start + position_or_len p xs)) None

pub position_is : (p : ℕ → Bool) (start : ℕ) (xs : List ℕ) → position_from p start xs ≡ found_at p start xs
position_is p start [] = refl
position_is p start (x ∷ xs) = by_test (p x) (position_is p (start + 1) xs)
  where
    by_test : (passes : Bool) → position_from p (start + 1) xs ≡ found_at p (start + 1) xs
        → cond passes (Some start) (position_from p (start + 1) xs)
        ≡ cond (ltb (cond (not passes) (1 + position_or_len p xs) 0) (suc (length xs)))
        (Some (start + cond (not passes) (1 + position_or_len p xs) 0)) None
    by_test true others = grind (arith, nat_tests)
    by_test false others = grind (arith, nat_tests, others)

-- The first zero is found; and what is found is the first zero.
abbrev before_zero : List ℕ → ℕ
before_zero units = position_or_len (λ unit. unit == 0) units

pub one_first : (units : List ℕ) (index : ℕ) → IsFirstAt units index → first_zero units ≡ Some index
one_first units index first =
    let at : before_zero units ≡ index =
    position_or_len_is (λ unit. unit == 0) units index 0 (omega (arith, first.within))
    (λ k before. grind (arith, nat_tests, first.before k before)) (λ within. grind (arith, nat_tests, first.is_zero)) in
    position_is (λ unit. unit == 0) 0 units ∙ grind (arith, nat_tests, at, first.within)

pub first_zero_is : (units : List ℕ) (index : ℕ) → first_zero units ≡ Some index → IsFirstAt units index
first_zero_is units index is =
    let found = cond_some _ (0 + before_zero units) index (sym (position_is (λ unit. unit == 0) 0 units) ∙ is) in
    let within : before_zero units < length units = ltb-true _ _ found.0 in
    let at : before_zero units ≡ index = omega (arith, found.1) in
    subst (IsFirstAt units) at (record {
      within = within;
      is_zero = grind (arith, nat_tests, passes_at_first (λ unit. unit == 0) units 0 within);
      before = λ k before. grind (arith, nat_tests, fails_before_first (λ unit. unit == 0) units k 0 before);
    })

-- A search that begins to count at a number finds the same unit, that much later.
pub found_from : (start : ℕ) (units : List ℕ) (found : Option ℕ) → found ≡ first_zero units
    → option_map (λ k. start + k) found ≡ position_from (λ unit. unit == 0) start units
found_from start units found is = ap (option_map (λ k. start + k)) is
    ∙ grind (arith, nat_tests, position_is (λ unit. unit == 0) 0 units, position_is (λ unit. unit == 0) start units)
