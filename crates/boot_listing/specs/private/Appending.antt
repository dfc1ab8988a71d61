-- What a function appends to a text, of which only this is known.
use Rattle.std.specs.Prelude.{◌≡◌, ℕ, List, ◌++◌, string_bytes}
use Rattle.std.specs.declared.string.String.{String}

-- The string grew by some text for which this holds.
abbrev pub AppendsSome : {A : Type 0} → (List ℕ → Type 0) → String A → String A → Type 0
AppendsSome Holds old new = (text : List ℕ) × Holds text × (string_bytes new ≡ string_bytes old ++ text)
