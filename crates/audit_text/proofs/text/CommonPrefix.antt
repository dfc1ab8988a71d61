-- The longest prefix that two lists have in common.
use Rattle.std.proofs.Common.{◌≡◌, ℕ, ◌+◌, List, [], ◌∷◌, length, drop, map, ap, arith, refl, length-drop}
use Rattle.std.specs.Prelude.{Bool, cond, min}
use Rattle.std.specs.List.{common_prefix_len}
use Rattle.std.proofs.lemmas.List.Sums.{common_prefix_len-le}

-- So many first items are common, and it depends on the items after them how many more.
abbrev pub AreCommon : {X : Type 0} → (X → X → Bool) → List X → List X → ℕ → Type 0
AreCommon same xs ys count = common_prefix_len same xs ys ≡ count + common_prefix_len same (drop count xs) (drop count ys)

-- Up to the end of a list.
pub up_to_end : {X : Type 0} (same : X → X → Bool) (xs ys : List X) (count shorter : ℕ) → shorter ≡ min (length xs) (length ys)
    → count ≡ shorter → AreCommon same xs ys count → shorter ≡ common_prefix_len same xs ys
up_to_end same xs ys count shorter is past before =
    let within = common_prefix_len-le same (drop count xs) (drop count ys) in
    omega (arith, before, within.0, within.1, length-drop count xs, length-drop count ys)

-- The same of what a function shows of the items.
pub common_views : {X Y : Type 0} (same : Y → Y → Bool) (view : X → Y) (xs ys : List X)
    → common_prefix_len (λ x y. same (view x) (view y)) xs ys ≡ common_prefix_len same (map view xs) (map view ys)
common_views same view [] ys = refl
common_views same view (x ∷ xs) [] = refl
common_views same view (x ∷ xs) (y ∷ ys) = ap (λ n. cond (same (view x) (view y)) (1 + n) 0) (common_views same view xs ys)
