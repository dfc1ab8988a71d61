-- Which pair has to come next in a configuration, and the error where it doesn't (UEFI 2.10, 35.2.1 "String Syntax").
use Rattle.std.specs.Prelude.{◌≡◌, ◌≢◌, ℕ, List, [], ◌∷◌, ◌++◌, Option, IsSome, IsSomeAnd, codes, ⊤}
use Rattle.uefi_path.specs.Node.{Node}
use Rattle.uefi_hii.specs.declared.error.ParseError.{ParseError}
use Rattle.uefi_hii.specs.declared.error.ParseError.TheVariants.{ConfigHdr, BlockName, BlockConfig}
use Rattle.uefi_hii.specs.declared.error.ConfigHdrSection.TheVariants as section
use Rattle.uefi_hii.specs.Pairs.{Pair}
use Rattle.uefi_hii.specs.Configuration.{Configuration, guid_in, name_in, number_in, bytes_in, HasPath, Spells}

-- What one pair of a configuration can be.
pub data Slot : Type 0 where
  GuidSlot NameSlot PathSlot AltSlot OffsetSlot WidthSlot ValueSlot : Slot

-- A pair is good for a slot if it has the slot's key and such a value. A path may have any key.
abbrev pub IsGood : Slot → Pair → Type 0
IsGood GuidSlot pair = IsSome (guid_in pair)
IsGood NameSlot pair = IsSome (name_in pair)
IsGood PathSlot pair = (path : List Node) × HasPath pair path
IsGood AltSlot pair = IsSome (number_in (codes "ALTCFG") pair)
IsGood OffsetSlot pair = IsSome (number_in (codes "OFFSET") pair)
IsGood WidthSlot pair = IsSome (number_in (codes "WIDTH") pair)
IsGood ValueSlot pair = IsSome (bytes_in pair)

-- The error where a slot's pair is missing, or another pair stands.
abbrev pub error_of : Slot → ParseError
error_of GuidSlot = ConfigHdr section.Guid
error_of NameSlot = ConfigHdr section.Name
error_of PathSlot = ConfigHdr section.Path
error_of AltSlot = ConfigHdr section.DescHdr
error_of OffsetSlot = BlockName
error_of WidthSlot = BlockName
error_of ValueSlot = BlockConfig

-- The pairs are good for these slots, one for each, in order.
abbrev pub AreGood : List Slot → List Pair → Type 0
AreGood [] [] = ⊤
AreGood (slot ∷ slots) (pair ∷ pairs) = IsGood slot pair × AreGood slots pairs
AreGood _ _ = ⊥

abbrev pub IsHeader : List Pair → Type 0
IsHeader = AreGood (GuidSlot ∷ NameSlot ∷ PathSlot ∷ [])

abbrev pub IsHeaderWithAlt : List Pair → Type 0
IsHeaderWithAlt = AreGood (GuidSlot ∷ NameSlot ∷ PathSlot ∷ AltSlot ∷ [])

abbrev pub IsBodyWithElement : List Pair → Type 0
IsBodyWithElement pairs = (c : Configuration) × Spells pairs c × (c.elements ≢ [])

-- A body, and then a pair good for each of the slots.
abbrev pub IsBodyThen : List Slot → List Pair → Type 0
IsBodyThen slots pairs =
    (body rest : List Pair) × (pairs ≡ body ++ rest) × ((c : Configuration) × Spells body c) × AreGood slots rest

-- The coming pair is there, and has the key.
abbrev pub IsKey : List ℕ → Option Pair → Type 0
IsKey key next = IsSomeAnd next (λ pair. pair.key ≡ key)

-- The table of what has to come: after these pairs, where this pair comes next or none does, it is a pair for the slot.
pub data Expects (before : List Pair) (next : Option Pair) : Slot → Type 0 where
  guid_first : before ≡ [] → Expects before next GuidSlot
  name_after_guid : AreGood (GuidSlot ∷ []) before → Expects before next NameSlot
  path_after_name : AreGood (GuidSlot ∷ NameSlot ∷ []) before → Expects before next PathSlot
  alt_after_header : IsHeader before → IsKey (codes "ALTCFG") next → Expects before next AltSlot
  offset_after_header : IsHeader before → IsSomeAnd next (λ p. p.key ≢ codes "ALTCFG") → Expects before next OffsetSlot
  offset_after_alt : IsHeaderWithAlt before → IsSome next → Expects before next OffsetSlot
  offset_after_element : IsBodyWithElement before → IsKey (codes "OFFSET") next → Expects before next OffsetSlot
  width_after_offset : IsBodyThen (OffsetSlot ∷ []) before → Expects before next WidthSlot
  value_after_width : IsBodyThen (OffsetSlot ∷ WidthSlot ∷ []) before → Expects before next ValueSlot
