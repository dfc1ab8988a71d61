-- What the readers of configurations return.
use Rattle.std.specs.Prelude.{◌≡◌, ◌≢◌, ℕ, List, [], ◌∷◌, ◌++◌, Option, Result, Err, map, MatchOption, IsSome, codes, ⊤}
use Rattle.uefi_hii.specs.declared.configuration.ConfigurationString.{ConfigurationString}
use Rattle.uefi_hii.specs.declared.error.ConfigHdrSection.TheVariants.{Guid}
use Rattle.uefi_hii.specs.declared.error.ParseError.{ParseError}
use Rattle.uefi_hii.specs.declared.error.ParseError.TheVariants.{ConfigHdr, Memory}
use Rattle.uefi_hii.specs.declared.multi.MultiConfigurationStringIter.{MultiConfigurationStringIter}
use Rattle.uefi_hii.specs.Pairs.{Pair}
use Rattle.uefi_hii.specs.Configuration.{value_at}
use Rattle.uefi_hii.specs.Slots.{GuidSlot, IsGood}
use Rattle.uefi_hii.specs.Group.{Group}
use Rattle.uefi_hii.specs.Cut.{Part, first_pair, results_of, Cut}
use Rattle.uefi_hii.specs.Views.{uncut_pairs, result_of}

-- Memory can run out only in a group that begins with a pair good for the GUID, and one with the key NAME and a value.
abbrev pub MayRunOut : List Pair → Type 0
MayRunOut (g ∷ n ∷ others) = IsGood GuidSlot g × IsSome (value_at (codes "NAME") n)
MayRunOut _ = ⊥

-- The prefix of the pairs that is a group gave the result, and the others are left; or memory ran out.
abbrev pub TakesGroup : {A : Type 0} → List Pair → Result (ConfigurationString A) ParseError → List Pair → Type 0
TakesGroup before (Err Memory) after = MayRunOut before
TakesGroup before result after = (group : List Pair) × (before ≡ group ++ after) × Group group (first_pair after) (result_of result)

-- After memory ran out no pair is left.
abbrev pub EndsOnMemory : {A : Type 0} → Result (ConfigurationString A) ParseError → List Pair → Type 0
EndsOnMemory (Err Memory) after = after ≡ []
EndsOnMemory result after = ⊤

-- One step of the iterator: the result of the next group, or nothing where no pair is left.
abbrev pub YieldsGroup : {A : Type 0} → MultiConfigurationStringIter A → Option (Result (ConfigurationString A) ParseError) → MultiConfigurationStringIter A → Type 0
YieldsGroup old item new =
    MatchOption item ((uncut_pairs old ≡ []) × (uncut_pairs new ≡ []))
    (λ result. (uncut_pairs old ≢ []) × TakesGroup (uncut_pairs old) result (uncut_pairs new) × EndsOnMemory result (uncut_pairs new))

-- The result of the first group. A text without pairs has no GUID.
abbrev pub IsFirstResult : {A : Type 0} → List Part → Result (ConfigurationString A) ParseError → Type 0
IsFirstResult [] result = result_of result ≡ Err (ConfigHdr Guid)
IsFirstResult (part ∷ parts) (Err Memory) = MayRunOut part.group
IsFirstResult (part ∷ parts) result = result_of result ≡ part.result

-- The items are the results of the text's cut.
abbrev pub AreResults : {A : Type 0} → List ℕ → List (Result (ConfigurationString A) ParseError) → Type 0
AreResults text items = (parts : List Part) × Cut text parts × (map result_of items ≡ results_of parts)
