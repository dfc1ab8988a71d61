-- Strings that end with a NUL each.
use Rattle.std.specs.Prelude.{ℕ, ◌≡◌, Bool, not, ◌==◌, List, [], ◌∷◌, ◌++◌, IsTrue}
use Rattle.std.specs.List.{list_all}

-- No byte is a NUL.
abbrev pub is_without_nul : List ℕ → Bool
is_without_nul string = list_all (λ byte. not (byte == 0)) string

-- Three strings, each with a NUL after it.
abbrev pub strings_bytes : List ℕ → List ℕ → List ℕ → List ℕ
strings_bytes first second third = first ++ (0 ∷ (second ++ (0 ∷ (third ++ 0 ∷ []))))

-- The bytes are these strings, none of which has a NUL.
pub record AreStrings (bytes first second third : List ℕ) : Type 0 where
  pub first_string : IsTrue (is_without_nul first)
  pub second_string : IsTrue (is_without_nul second)
  pub third_string : IsTrue (is_without_nul third)
  pub joined : bytes ≡ strings_bytes first second third
