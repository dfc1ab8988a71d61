-- Names in UTF-16, by their units.
use Rattle.std.specs.Prelude.{ℕ, List, [], ◌∷◌, ◌++◌, codes, flat_map}
use Rattle.std.specs.Int.{w16, to_be_bytes}
use Rattle.shown.specs.HexText.{hex_of}

-- Four hex digits for each unit, joined.
abbrev pub units_hex : List ℕ → List ℕ
units_hex units = hex_of (flat_map (to_be_bytes w16) units)

-- A space and the characters of the name in hex; nothing if it has none.
unfoldable pub name_field : List ℕ → List ℕ
name_field [] = []
name_field (unit ∷ units) = codes " " ++ units_hex (unit ∷ units)
