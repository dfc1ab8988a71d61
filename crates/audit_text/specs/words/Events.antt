-- What is shown of events in order, each with its index.
use Rattle.std.specs.Prelude.{ℕ, ◌≡◌, ◌+◌, List, [], ◌∷◌, ◌++◌}
use Rattle.std.specs.declared.alloc.Global.{Global}
use Rattle.std.specs.declared.string.String.{String}
use Rattle.uefi_base.specs.Appending.{AppendsText}
use Rattle.uefi_tcg.specs.Entries.{Entry}

-- The text is what is shown of these events, of which the first has this index, joined.
abbrev pub AreShown : (ℕ → Entry → List ℕ → Type 0) → ℕ → List Entry → List ℕ → Type 0
AreShown IsOne index [] text = text ≡ []
AreShown IsOne index (entry ∷ entries) text =
    (one : List ℕ) × (others : List ℕ) × IsOne index entry one × AreShown IsOne (index + 1) entries others
    × (text ≡ one ++ others)

-- The string grew by a text of which this holds.
abbrev pub AppendsSome : (List ℕ → Type 0) → String Global → String Global → Type 0
AppendsSome Is old new = (text : List ℕ) × Is text × AppendsText old new text
