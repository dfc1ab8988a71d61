-- What a configuration holds, and the pairs that spell it (UEFI 2.10, 35.2.1 "String Syntax").
use Rattle.std.specs.Prelude.{◌≡◌, ◌≢◌, ℕ, ◌%◌, ◌^◌, List, [], ◌∷◌, ◌++◌, Option, Some, None, reverse, IsSomeAnd, option_and_then, option_map, if◌then◌else◌, codes}
use Rattle.std.specs.Str.{bytes_eq}
use Rattle.std.specs.List.{AllByRecursion}
use Rattle.uefi_base.specs.Prefix.{IsPrefix}
use Rattle.uefi_path.specs.Node.{Node, joined}
use Rattle.uefi_path.specs.Path.{IsPath}
use Rattle.uefi_hii.specs.Hex.{hex}
use Rattle.uefi_hii.specs.Pairs.{Pair}
use Rattle.uefi_hii.specs.Values.{number, guid, name}

-- An element: where its bytes are in the block of the configuration, how many they are, the bytes, and the pairs that follow them.
pub record Element : Type 0 where
  pub offset : ℕ
  pub width : ℕ
  pub value : List ℕ
  pub nvconfig : List Pair

-- A configuration: the GUID, name and device path of its header, the identifier of an alternative one, and its elements.
pub record Configuration : Type 0 where
  pub guid : List ℕ
  pub name : List ℕ
  pub path : List Node
  pub alt_cfg_id : Option ℕ
  pub elements : List Element

-- The value of the pair, if it has the key.
abbrev pub value_at : List ℕ → Pair → Option (List ℕ)
value_at key pair = if bytes_eq pair.key key then pair.value else None

-- The GUID, the name, the number or the element's bytes of a pair, if it has the key and such a value.
abbrev pub guid_in : Pair → Option (List ℕ)
guid_in pair = option_and_then guid (value_at (codes "GUID") pair)

abbrev pub name_in : Pair → Option (List ℕ)
name_in pair = option_and_then name (value_at (codes "NAME") pair)

abbrev pub number_in : List ℕ → Pair → Option ℕ
number_in key pair = option_and_then number (value_at key pair)

-- A value is a number of any length: its lowest byte, which is the last that the text spells, comes first.
abbrev pub bytes_in : Pair → Option (List ℕ)
bytes_in pair = option_map (λ value. reverse (hex value)) (value_at (codes "VALUE") pair)

-- The bytes of the pair's value begin with the path, whatever the key.
abbrev pub HasPath : Pair → List Node → Type 0
HasPath pair path = IsSomeAnd pair.value (λ value. IsPath path × IsPrefix (joined path) (hex value))

-- A header: GUID, name and path, and then perhaps a number, of which the low 16 bits are the identifier.
abbrev pub SpellsHeader : List Pair → Configuration → Type 0
SpellsHeader (g ∷ n ∷ p ∷ []) c =
    (guid_in g ≡ Some c.guid) × (name_in n ≡ Some c.name) × HasPath p c.path × (c.alt_cfg_id ≡ None)
SpellsHeader (g ∷ n ∷ p ∷ a ∷ []) c =
    (guid_in g ≡ Some c.guid) × (name_in n ≡ Some c.name) × HasPath p c.path
    × ((id : ℕ) × (number_in (codes "ALTCFG") a ≡ Some id) × (c.alt_cfg_id ≡ Some (id % 2 ^ 16)))
SpellsHeader _ c = ⊥

-- An element skips each pair whose key is neither OFFSET nor GUID.
abbrev pub IsSkipped : Pair → Type 0
IsSkipped pair = (pair.key ≢ codes "OFFSET") × (pair.key ≢ codes "GUID")

-- An element: offset, width and value, and then the pairs that it skips, which it keeps in order.
abbrev pub SpellsElement : List Pair → Element → Type 0
SpellsElement (o ∷ w ∷ v ∷ skipped) e =
    (number_in (codes "OFFSET") o ≡ Some e.offset) × (number_in (codes "WIDTH") w ≡ Some e.width) × (bytes_in v ≡ Some e.value)
    × (skipped ≡ e.nvconfig) × AllByRecursion IsSkipped skipped
SpellsElement _ e = ⊥

-- Elements, one after another.
abbrev pub SpellsElements : List Pair → List Element → Type 0
SpellsElements pairs [] = pairs ≡ []
SpellsElements pairs (e ∷ es) = (first others : List Pair) × (pairs ≡ first ++ others) × SpellsElement first e × SpellsElements others es

-- A body: the header of a configuration, and its elements.
pub record Spells (pairs : List Pair) (c : Configuration) : Type 0 where
  pub header : List Pair
  pub rest : List Pair
  pub whole : pairs ≡ header ++ rest
  pub is_header : SpellsHeader header c
  pub elements : SpellsElements rest c.elements
