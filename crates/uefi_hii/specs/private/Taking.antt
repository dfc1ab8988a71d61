-- What the helpers of the readers take from the pairs that are left.
use Rattle.std.specs.Prelude.{◌≡◌, ◌⊎◌, ℕ, ◌%◌, ◌^◌, List, [], ◌∷◌, ◌++◌, Option, Some, None, Result, Ok, Err, IsSome, IsSomeAnd, codes, ⊤}
use Rattle.std.specs.List.{AllByRecursion}
use Rattle.uefi_path.specs.declared.boxed.BoxedDevicePath.{BoxedDevicePath}
use Rattle.uefi_path.specs.Views.{boxed_nodes}
use Rattle.uefi_hii.specs.declared.configuration.ConfigurationString.{ConfigurationString}
use Rattle.uefi_hii.specs.declared.configuration.ConfigurationStringElement.{ConfigurationStringElement}
use Rattle.uefi_hii.specs.declared.error.ParseError.{ParseError}
use Rattle.uefi_hii.specs.declared.error.ParseError.TheVariants.{Memory}
use Rattle.uefi_hii.specs.Pairs.{Pair}
use Rattle.uefi_hii.specs.Configuration.{number_in, value_at, HasPath, IsSkipped, SpellsHeader, SpellsElement}
use Rattle.uefi_hii.specs.Slots.{PathSlot, AltSlot, OffsetSlot, WidthSlot, ValueSlot, IsGood, IsKey, error_of}
use Rattle.uefi_hii.specs.Group.{Group}
use Rattle.uefi_hii.specs.Cut.{first_pair}
use Rattle.uefi_hii.specs.Reading.{MayRunOut}
use Rattle.uefi_hii.specs.Views.{configuration_of, element_of}

-- The next pair wasn't good, and is gone; or none was left.
abbrev pub Misses : (Pair → Type 0) → List Pair → List Pair → Type 0
Misses Good before after = ((before ≡ []) × (after ≡ [])) ⊎ ((pair : Pair) × (before ≡ pair ∷ after) × ¬ Good pair)

-- The next pair held the value, and is gone.
abbrev pub Takes : {A : Type 0} → (Pair → Option A) → List Pair → Option A → List Pair → Type 0
Takes value_in before (Some value) after = (pair : Pair) × (before ≡ pair ∷ after) × (value_in pair ≡ Some value)
Takes value_in before None after = Misses (λ pair. IsSome (value_in pair)) before after

-- The next pair has the key NAME and a value.
abbrev pub IsNamed : List Pair → Type 0
IsNamed pairs = IsSomeAnd (first_pair pairs) (λ pair. IsSome (value_at (codes "NAME") pair))

-- The next pair's value began with the path, and the pair is gone.
abbrev pub TakesPath : {A : Type 0} → List Pair → Option (BoxedDevicePath A) → List Pair → Type 0
TakesPath before (Some path) after = (pair : Pair) × (before ≡ pair ∷ after) × HasPath pair (boxed_nodes path)
TakesPath before None after = Misses (IsGood PathSlot) before after

-- The next pair's identifier is taken, if its key is ALTCFG.
abbrev pub TakesAlt : List Pair → Result (Option ℕ) ParseError → List Pair → Type 0
TakesAlt before (Ok None) after = (after ≡ before) × ¬ IsKey (codes "ALTCFG") (first_pair before)
TakesAlt before (Ok (Some id)) after =
    (pair : Pair) × (before ≡ pair ∷ after) × ((n : ℕ) × (number_in (codes "ALTCFG") pair ≡ Some n) × (id ≡ n % 2 ^ 16))
TakesAlt before (Err error) after = (error ≡ error_of AltSlot) × IsKey (codes "ALTCFG") (first_pair before) × Misses (IsGood AltSlot) before after

-- The group at the beginning of the pairs fails.
abbrev pub TakesError : List Pair → ParseError → List Pair → Type 0
TakesError before error after = (group : List Pair) × (before ≡ group ++ after) × Group group (first_pair after) (Err error)

-- The pairs begin with a header, without elements yet; or their first group fails, or memory ran out.
abbrev pub TakesHeader : {A : Type 0} → List Pair → Result (ConfigurationString A) ParseError → List Pair → Type 0
TakesHeader before (Ok c) after =
    (header : List Pair) × (before ≡ header ++ after) × SpellsHeader header (configuration_of c) × (c.elements.items ≡ [])
    × (c.alt_cfg_id ≡ None → ¬ IsKey (codes "ALTCFG") (first_pair after))
TakesHeader before (Err Memory) after = MayRunOut before
TakesHeader before (Err error) after = TakesError before error after

-- One of the three pairs of an element is missing, or isn't good.
abbrev pub MissesElement : List Pair → List Pair → ParseError → Type 0
MissesElement before after error =
    ((error ≡ error_of OffsetSlot) × Misses (IsGood OffsetSlot) before after)
    ⊎ ((o : Pair) × (rest : List Pair) × (error ≡ error_of WidthSlot) × (before ≡ o ∷ rest) × IsGood OffsetSlot o × Misses (IsGood WidthSlot) rest after)
    ⊎ ((o w : Pair) × (rest : List Pair) × (error ≡ error_of ValueSlot) × (before ≡ o ∷ w ∷ rest) × IsGood OffsetSlot o × IsGood WidthSlot w × Misses (IsGood ValueSlot) rest after)

-- The first of the pairs, if there is one, isn't skipped.
abbrev pub StopsAt : List Pair → Type 0
StopsAt [] = ⊤
StopsAt (pair ∷ pairs) = ¬ IsSkipped pair

-- These pairs were skipped, up to the next that isn't.
abbrev pub Skips : List Pair → List Pair → List Pair → Type 0
Skips before skipped after = (before ≡ skipped ++ after) × AllByRecursion IsSkipped skipped × StopsAt after

-- The pairs begin with an element, with all that it skips; or one of its pairs is missing, or memory ran out.
abbrev pub TakesElement : {A : Type 0} → List Pair → Result (ConfigurationStringElement A) ParseError → List Pair → Type 0
TakesElement before (Ok e) after = (front : List Pair) × (before ≡ front ++ after) × SpellsElement front (element_of e) × StopsAt after
TakesElement before (Err Memory) after = ⊤
TakesElement before (Err error) after = MissesElement before after error
