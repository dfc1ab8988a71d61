-- The PCRs of a selection.
use Rattle.std.proofs.Common.{◌≡◌, ℕ, zero, suc, ◌+◌, ◌-◌, ◌<◌, ◌≤◌, Bool, true, false, cond, [], ◌∷◌, length, filter, refl, arith}
use Rattle.tpm_quote.specs.PcrSelection.{numbers}

module _ (test : ℕ → Bool) where
  -- The next number, if it passes, and the others.
  pub next_number : (n : ℕ) → n < 24 → filter test (numbers n (24 - n))
      ≡ cond (test n) (n ∷ filter test (numbers (n + 1) (24 - (n + 1)))) (filter test (numbers (n + 1) (24 - (n + 1))))
  unfolding numbers
  next_number n lt =
      let count : 24 - n ≡ suc (24 - (n + 1)) = omega arith in
      let next : suc n ≡ n + 1 = omega arith in
      rw (count, next) refl

  pub no_number : (n : ℕ) → 24 ≤ n → filter test (numbers n (24 - n)) ≡ []
  unfolding numbers
  no_number n ge = let count : 24 - n ≡ 0 = omega arith in rw count refl

  -- There are at most as many that pass.
  pub length-passing : (first count : ℕ) → length (filter test (numbers first count)) ≤ count
  unfolding numbers
  length-passing first zero = omega arith
  length-passing first (suc count) = by_test (test first) (length-passing (suc first) count)
    where
      by_test : (t : Bool) → length (filter test (numbers (suc first) count)) ≤ count
          → length (cond t (first ∷ filter test (numbers (suc first) count)) (filter test (numbers (suc first) count))) ≤ suc count
      by_test true others = omega arith
      by_test false others = omega arith

-- The lemma that callers cite.
pub ruleset few_pcrs = (length-passing)
