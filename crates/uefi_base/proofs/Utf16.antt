-- Units before the NUL, and the characters that they spell.
use Rattle.std.proofs.Common.{◌≡◌, ◌≢◌, ◌≤◌, ℕ, ◌+◌, Bool, true, false, cond, ◌==◌, ◌&&◌, not, Option, Some, List, [], ◌∷◌, length}
use Rattle.std.proofs.Common.{refl, ap, ◌∙◌, arith, eqb-true}
use Rattle.std.proofs.lemmas.List.{length-map, length-take}
use Rattle.std.specs.Option.{unwrap_or}
use Rattle.std.specs.Char.Utf16.{utf16_chars, is_high_surrogate, is_low_surrogate, surrogate_pair_char, lone_unit_char}
use Rattle.std.proofs.lemmas.List.Sums.{take_while-cons}
use Rattle.uefi_base.specs.Utf16.{before_nul, lossy_characters}

-- A unit that isn't zero comes before the NUL.
pub unit_kept : (unit : ℕ) (left : List ℕ) → unit ≢ 0 → before_nul (unit ∷ left) ≡ unit ∷ before_nul left
unit_kept unit left kept = by_test (unit == 0) refl
  where
    by_test : (test : Bool) → (unit == 0) ≡ test → before_nul (unit ∷ left) ≡ unit ∷ before_nul left
    by_test true is = absurd (kept (eqb-true unit 0 is))
    by_test false is = take_while-cons (λ u. not (u == 0)) unit left
        ∙ ap (λ b. cond (not b) (unit ∷ before_nul left) []) is

-- There are no more characters than units.
more : (test : Bool) (n : ℕ) (pair single : Option ℕ) (after next : List (Option ℕ)) → length after ≤ n
    → length next ≤ n + 1 → length (cond test (pair ∷ after) (single ∷ next)) ≤ n + 2
more true n pair single after next few most = omega (arith, few)
more false n pair single after next few most = omega (arith, most)

fewer_chars : (units : List ℕ) → length (utf16_chars units) ≤ length units
unfolding utf16_chars
fewer_chars [] = omega arith
fewer_chars (u ∷ []) = omega arith
fewer_chars (u ∷ v ∷ units) =
    let few = more (is_high_surrogate u && is_low_surrogate v) (length units) (Some (surrogate_pair_char u v))
    (lone_unit_char u) (utf16_chars units) (utf16_chars (v ∷ units)) (fewer_chars units) (omega (arith, fewer_chars (v ∷ units))) in
    omega (arith, few)

pub fewer_characters : (units : List ℕ) → length (lossy_characters units) ≤ length units
fewer_characters units =
    let taken : length (before_nul units) ≤ length units = grind (arith, length-take) in
    let same = length-map (utf16_chars (before_nul units)) (λ o. unwrap_or o 0xfffd) in
    omega (arith, same, fewer_chars (before_nul units), taken)
