-- Values of a list that were set, one after another.
use Rattle.std.proofs.Common.{ℕ, zero, suc, List, [], ◌∷◌}
use Rattle.std.specs.Prelude.{IfSome, slice_get, slice_set}

module _ {A : Type 0} (P : A → Type 0) (new : A) (good : P new) where
  -- The one that was set.
  pub set_here : (xs : List A) (k : ℕ) → IfSome (slice_get (slice_set xs k new) k) P
  set_here [] k = tt
  set_here (x ∷ xs) zero = good
  set_here (x ∷ xs) (suc k) = set_here xs k

  -- The others are as they were.
  pub set_others : (xs : List A) (k other : ℕ) → IfSome (slice_get xs other) P
      → IfSome (slice_get (slice_set xs k new) other) P
  set_others [] k other held = held
  set_others (x ∷ xs) zero zero held = good
  set_others (x ∷ xs) zero (suc other) held = held
  set_others (x ∷ xs) (suc k) zero held = held
  set_others (x ∷ xs) (suc k) (suc other) held = set_others xs k other held
