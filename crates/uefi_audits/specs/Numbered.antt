-- What items in order give, each with its number.
use Rattle.std.specs.Prelude.{ℕ, ◌+◌, List, [], ◌∷◌, ◌++◌}

-- What each item gives, joined. The first has this number.
unfoldable pub numbered : {A B : Type 0} → (ℕ → A → List B) → ℕ → List A → List B
numbered given number [] = []
numbered given number (item ∷ items) = given number item ++ numbered given (number + 1) items
