-- Ranges of lists, and lists written out.
use Rattle.std.proofs.Common.{◌≡◌, ℕ, zero, suc, ◌+◌, ◌-◌, ◌≤◌, List, [], ◌∷◌, ◌++◌, length, get_or, take, drop, sym}
use Rattle.std.proofs.Common.{◌∙◌, ap, arith}
use Rattle.std.specs.Prelude.{slice_range}
use Rattle.std.proofs.lemmas.Grind.{common_steps}
use Rattle.std.proofs.lemmas.List.{drop-drop, same_lists, places}
use Rattle.std.proofs.Math.Seq.{drop-cons}

-- A range within a prefix.
pub range-take : {A : Type 0} (n : ℕ) (xs : List A) (from to : ℕ) → from ≤ to → to ≤ n
    → slice_range (take n xs) from to ≡ slice_range xs from to
range-take n xs from to ordered within =
    same_lists _ _ (grind (arith, common_steps)) (λ k d within_both. grind (arith, places))

-- Lists that agree on their first n items have the same ranges there.
pub range-same_prefix : {A : Type 0} (n : ℕ) (one other : List A) (from to : ℕ) → from ≤ to → to ≤ n
    → take n one ≡ take n other → slice_range one from to ≡ slice_range other from to
range-same_prefix n one other from to ordered within same =
    sym (range-take n one from to ordered within) ∙ ap (λ xs. slice_range xs from to) same
    ∙ range-take n other from to ordered within

-- Lists that agree from index n on have the same ranges from there on.
pub range-same_rest : {A : Type 0} (n : ℕ) (one other : List A) (from to : ℕ) → n ≤ from
    → drop n one ≡ drop n other → slice_range one from to ≡ slice_range other from to
range-same_rest {A} n one other from to behind same =
    let cut : (xs : List A) → drop from xs ≡ drop (from - n) (drop n xs) = λ xs. ap (λ m. drop m xs) (omega arith)
    ∙ sym (drop-drop (from - n) n xs) in
    ap (take (to - from)) (cut one ∙ ap (drop (from - n)) same ∙ sym (cut other))

-- The n items from index i on, one by one; and a list of at least as many, cut behind them.
unfoldable pub items_from : ℕ → ℕ → List ℕ → List ℕ
items_from i zero xs = []
items_from i (suc n) xs = get_or xs i 0 ∷ items_from (suc i) n xs

pub drop-items_from : (i n j : ℕ) (xs : List ℕ) → i + n ≡ j → j ≤ length xs → drop i xs ≡ items_from i n xs ++ drop j xs
unfolding items_from
drop-items_from i zero j xs end within = ap (λ k. drop k xs) (omega (arith, end))
drop-items_from i (suc n) j xs end within =
    drop-cons xs i 0 (omega (arith, end, within))
    ∙ ap (λ rest. get_or xs i 0 ∷ rest) (drop-items_from (suc i) n j xs (omega (arith, end)) within)
