-- What a test of each element says of one.
use Rattle.std.proofs.Common.{◌≡◌, ◌<◌, ℕ, Bool, true, List, length, get_or}
use Rattle.std.specs.List.{list_all}
use Rattle.std.proofs.lemmas.Bool.{true_from_ne_false, both_ways}
use Rattle.std.proofs.lemmas.List.Folds.{list_all_at}

-- Each element passes if all do.
pub list_all-get_or : {X : Type 0} (p : X → Bool) (xs : List X) (i : ℕ) (d : X) → i < length xs → list_all p xs ≡ true → p (get_or xs i d) ≡ true
list_all-get_or p xs i d within all = true_from_ne_false (p (get_or xs i d)) (λ fails. both_ways (list_all p xs) (list_all_at p xs i d within fails) all)
