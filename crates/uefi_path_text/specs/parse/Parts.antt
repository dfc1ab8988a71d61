-- Parts of the texts of arguments.
use Rattle.std.specs.Prelude.{ℕ, ◌==◌, ◌&&◌, Bool, not, List, [], ◌∷◌, length}
use Rattle.std.specs.Prelude.{Option, Some, None, if◌then◌else◌}
use Rattle.std.specs.List.{list_all}
use Rattle.std.specs.Str.Parse.{digits_value}
use Rattle.std.specs.Char.{is_digit}

-- A value, if a test holds.
abbrev pub given : {A : Type 0} → Bool → A → Option A
given test value = if test then Some value else None

-- One digit or more.
abbrev pub is_numeral : ℕ → List ℕ → Bool
is_numeral radix text = not (length text == 0) && list_all (λ c. is_digit c radix) text

abbrev pub numeral : ℕ → List ℕ → Option ℕ
numeral radix text = given (is_numeral radix text) (digits_value radix text)

-- The parts of a text that a mark separates.
abbrev pub onto_first : ℕ → List (List ℕ) → List (List ℕ)
onto_first c [] = (c ∷ []) ∷ []
onto_first c (part ∷ parts) = (c ∷ part) ∷ parts

abbrev pub cut_at : ℕ → List ℕ → List (List ℕ)
cut_at mark [] = [] ∷ []
cut_at mark (c ∷ text) = if c == mark then [] ∷ cut_at mark text else onto_first c (cut_at mark text)
