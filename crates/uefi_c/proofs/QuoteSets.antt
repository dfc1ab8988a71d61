-- The PCRs of a selection as a set, one after another.
use Rattle.std.proofs.Common.{◌≡◌, ◌↔◌, ℕ, zero, suc, ◌+◌, ◌^◌, ◌<◌, Bool, true, false, cond, [], ◌∷◌, ◌++◌, refl, sym, ◌∙◌, ap, arith}
use Rattle.std.specs.List.{filter, sum_by}
use Rattle.std.proofs.Math.Pow.{pow_mono}
use Rattle.std.proofs.lemmas.List.Elements.{filter-append}
use Rattle.std.proofs.lemmas.List.Sums.{sum_by-append}
use Rattle.tpm_quote.specs.PcrSelection.{numbers}
use Rattle.uefi_c.specs.Quote.{set_of}

numbers_more : (first count : ℕ) → numbers first (suc count) ≡ numbers first count ++ (first + count) ∷ []
unfolding numbers
numbers_more first zero = ap (λ n. n ∷ []) (omega arith)
numbers_more first (suc count) =
    let next : suc first + count ≡ first + suc count = omega arith in
    ap (λ others. first ∷ others) (numbers_more (suc first) count ∙ ap (λ n. numbers (suc first) count ++ n ∷ []) next)

module _ (test : ℕ → Bool) where
  -- The set of those below a number that pass.
  abbrev pub set_below : ℕ → ℕ
  set_below count = set_of (filter test (numbers 0 count))

  one_more : (n : ℕ) → set_below (suc n) ≡ set_below n + cond (test n) (2 ^ n) 0
  one_more n =
      let same : 0 + n ≡ n = omega arith in
      ap (λ all. set_of (filter test all)) (numbers_more 0 n ∙ ap (λ m. numbers 0 n ++ m ∷ []) same)
      ∙ ap set_of (filter-append test (numbers 0 n) (n ∷ []))
      ∙ sum_by-append (λ pcr. 2 ^ pcr) (filter test (numbers 0 n)) (filter test (n ∷ []))
      ∙ ap (λ more. set_below n + more) (by_test (test n))
    where
      by_test : (t : Bool) → sum_by (λ pcr. 2 ^ pcr) (cond t (n ∷ []) []) ≡ cond t (2 ^ n) 0
      by_test true = omega arith
      by_test false = refl

  -- One more, by whether it passes.
  pub one_passes : (n : ℕ) → test n ≡ true → set_below (n + 1) ≡ set_below n + 2 ^ n
  one_passes n passes =
      let next : n + 1 ≡ suc n = omega arith in
      ap set_below next ∙ one_more n ∙ ap (λ t. set_below n + cond t (2 ^ n) 0) passes

  pub one_fails : (n : ℕ) → test n ≡ false → set_below (n + 1) ≡ set_below n
  one_fails n fails =
      let next : n + 1 ≡ suc n = omega arith in
      let same : set_below n + 0 ≡ set_below n = omega arith in
      ap set_below next ∙ one_more n ∙ ap (λ t. set_below n + cond t (2 ^ n) 0) fails ∙ same

  pub none_below : 0 ≡ set_below 0
  unfolding numbers
  none_below = refl

  -- The set has no other bits.
  pub small : (n : ℕ) → set_below n < 2 ^ n
  small zero = omega (arith, none_below)
  small (suc n) = by_test (test n) (one_more n) (small n)
    where
      by_test : (t : Bool) → set_below (suc n) ≡ set_below n + cond t (2 ^ n) 0 → set_below n < 2 ^ n → set_below (suc n) < 2 ^ suc n
      by_test true is before = omega (arith, is, before)
      by_test false is before = omega (arith, is, before)

  -- There is room for one more below 32.
  pub room_for : (n : ℕ) → n < 24 → set_below n + 2 ^ n < 2 ^ 32
  room_for n within = omega (arith, small n, pow_mono {i = n} {j = 23} (omega (arith, within)))

pub same_test : (one other : Bool) → (one ≡ true) ↔ (other ≡ true) → one ≡ other
same_test true true is = refl
same_test true false is = sym (is.0 refl)
same_test false true is = is.1 refl
same_test false false is = refl
