-- Prefixes of lists.
use Rattle.std.specs.Prelude.{◌≡◌, List, ◌++◌}

-- The list starts with the prefix, which may be empty or the whole list.
abbrev pub IsPrefix : {A : Type 0} → List A → List A → Type 0
IsPrefix {A} prefix whole = (rest : List A) × (whole ≡ prefix ++ rest)
