-- Text that grows.
use Rattle.std.specs.Prelude.{◌≡◌, ℕ, List, ◌++◌, string_bytes}
use Rattle.std.specs.declared.string.String.{String}

-- The string grew by the text.
abbrev pub AppendsText : {A : Type 0} → String A → String A → List ℕ → Type 0
AppendsText old new text = string_bytes new ≡ string_bytes old ++ text
