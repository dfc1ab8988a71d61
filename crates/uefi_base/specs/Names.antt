-- What Debug writes of a type around a number.
use Rattle.std.specs.Prelude.{ℕ, List, ◌++◌, Option, Some, None, codes, false}
use Rattle.std.specs.Fmt.{digits}

-- The number's name, or else the number in hex.
abbrev pub name_or_hex : Option (List ℕ) → ℕ → List ℕ
name_or_hex (Some name) number = name
name_or_hex None number = codes "0x" ++ digits 16 false number

-- It in parentheses, after the name of the type.
abbrev pub named_text : List ℕ → Option (List ℕ) → ℕ → List ℕ
named_text type_name name number = type_name ++ (codes "(" ++ (name_or_hex name number ++ codes ")"))
