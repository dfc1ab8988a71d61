-- A test of views.
use Rattle.std.proofs.Common.{◌≡◌, List, [], ◌∷◌, map, ap, refl, Bool, ◌||◌}
use Rattle.std.specs.List.{list_any}

pub any_view : {A B : Type 0} (test : B → Bool) (view : A → B) (all : List A)
    → list_any (λ it. test (view it)) all ≡ list_any test (map view all)
any_view test view [] = refl
any_view test view (it ∷ all) = ap (λ rest. test (view it) || rest) (any_view test view all)
