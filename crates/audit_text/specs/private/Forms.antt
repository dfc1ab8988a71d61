-- How the counts of forms are appended, one after another.
use Rattle.std.specs.Prelude.{ℕ, ◌≡◌, ◌||◌, Bool, true, false, List, [], ◌∷◌, ◌++◌, codes, flat_map, if◌then◌else◌}
use Rattle.std.specs.declared.string.String.{String}
use Rattle.uefi_base.specs.Appending.{AppendsText}

abbrev pub has_some : List (List ℕ) → Bool
has_some [] = false
has_some (first ∷ others) = true

-- What is in parentheses so far.
unfoldable pub opened : List (List ℕ) → List ℕ
opened [] = []
opened (first ∷ others) = codes " (" ++ (first ++ flat_map (λ other. codes ", " ++ other) others)

-- What is appended for the next one, if there is one.
abbrev pub next_text : Bool → List (List ℕ) → List ℕ
next_text any [] = []
next_text any (next ∷ others) = (if any then codes ", " else codes " (") ++ next

-- It was appended; and whether there is one by now.
pub record AppendsNext {A : Type 0} (any : Bool) (next : List (List ℕ)) (old new : String A) (now : Bool) : Type 0 where
  pub appends : AppendsText old new (next_text any next)
  pub has_any : now ≡ (any || has_some next)
