-- A list with one part replaced.
use Rattle.std.proofs.Common.{◌≡◌, ℕ, ◌+◌, ◌≤◌, List, ◌++◌, length, take, drop, slice_range, arith}
use Rattle.std.proofs.lemmas.Grind.{common_steps}
use Rattle.std.proofs.lemmas.List.{same_lists, places}

-- A list with another part of n items from an index on: what is before it, what is behind it, the part, and the
-- length.
module _ (list part : List ℕ) (at n : ℕ) (sized : length part ≡ n) (within : at + n ≤ length list) where
  abbrev replaced : List ℕ
  replaced = take at list ++ (part ++ drop (at + n) list)

  pub before_part : take at replaced ≡ take at list
  before_part = grind (arith, common_steps)

  pub behind_part : drop (at + n) replaced ≡ drop (at + n) list
  behind_part = same_lists _ _ (grind (arith, common_steps)) (λ k d within_both. grind (arith, places))

  pub the_part : slice_range replaced at (at + n) ≡ part
  the_part = grind (arith, common_steps)

  pub length-replaced : length replaced ≡ length list
  length-replaced = grind (arith, common_steps)
