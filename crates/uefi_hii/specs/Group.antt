-- Groups of pairs: a configuration, or a fault (UEFI 2.10, 35.2.1 "String Syntax").
use Rattle.std.specs.Prelude.{◌≡◌, ◌≢◌, ◌⊎◌, List, [], ◌∷◌, ◌++◌, Option, Some, None, Result, Ok, Err, MatchOption, codes, ⊤}
use Rattle.uefi_hii.specs.declared.error.ParseError.{ParseError}
use Rattle.uefi_hii.specs.Pairs.{Pair}
use Rattle.uefi_hii.specs.Configuration.{Configuration, Spells}
use Rattle.uefi_hii.specs.Slots.{Slot, IsGood, Expects, error_of}

-- The last pair of the group isn't good for its slot, or the pairs end where the slot's pair has to come.
abbrev pub FailsAt : Slot → List Pair → Option Pair → Type 0
FailsAt slot group next =
    ((before : List Pair) × (last : Pair) × (group ≡ before ++ last ∷ []) × Expects before (Some last) slot × ¬ IsGood slot last)
    ⊎ ((next ≡ None) × Expects group None slot)

-- A configuration ends where the pairs end or, once it has an element, before a pair with the key GUID.
abbrev pub EndsBefore : Option Pair → Configuration → Type 0
EndsBefore next c = MatchOption next ⊤ (λ pair. (pair.key ≡ codes "GUID") × (c.elements ≢ []))

-- The result of a group: the configuration that its pairs spell, if it ends there, or the error of the slot at which
-- the group fails.
abbrev pub Gives : List Pair → Option Pair → Result Configuration ParseError → Type 0
Gives group next (Ok c) = Spells group c × EndsBefore next c
Gives group next (Err error) = (slot : Slot) × (error ≡ error_of slot) × FailsAt slot group next

-- A group before the pair that comes next, if one does, and its result. No group is empty.
pub record Group (group : List Pair) (next : Option Pair) (result : Result Configuration ParseError) : Type 0 where
  pub not_empty : group ≢ []
  pub gives : Gives group next result
