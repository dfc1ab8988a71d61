-- Laws of groups and cuts.
use Rattle.std.specs.Prelude.{◌≡◌, ◌≢◌, ℕ, List, [], ◌∷◌, ◌++◌, Result, IsOkAnd, codes}
use Rattle.uefi_hii.specs.declared.error.ParseError.{ParseError}
use Rattle.uefi_hii.specs.Pairs.{Pair, ampersand, pairs}
use Rattle.uefi_hii.specs.Configuration.{Configuration}
use Rattle.uefi_hii.specs.Slots.{IsKey}
use Rattle.uefi_hii.specs.Group.{Group}
use Rattle.uefi_hii.specs.Cut.{Part, first_pair, Cut}

-- The pairs begin with a group, which gives the result before the pair after it.
abbrev pub BeginsWith : List Pair → List Pair → Result Configuration ParseError → Type 0
BeginsWith pairs group result = (rest : List Pair) × (pairs ≡ group ++ rest) × Group group (first_pair rest) result

-- The pairs begin with a group and with no other, and the group has one result.
pub record BeginsWithOneGroup (pairs : List Pair) : Type 0 where
  pub group : List Pair
  pub result : Result Configuration ParseError
  pub begins : BeginsWith pairs group result
  pub no_other : (other : List Pair) (its_result : Result Configuration ParseError) → BeginsWith pairs other its_result → (other ≡ group) × (its_result ≡ result)

-- All pairs, if there are any, begin with exactly one group.
abbrev pub OneGroup : Type 0
OneGroup = (pairs : List Pair) → pairs ≢ [] → BeginsWithOneGroup pairs

-- The text has a cut and no other.
pub record HasOneCut (text : List ℕ) : Type 0 where
  pub parts : List Part
  pub cut : Cut text parts
  pub no_other : (other : List Part) → Cut text other → other ≡ parts

-- The last character is an ampersand.
abbrev pub EndsWithAmpersand : List ℕ → Type 0
EndsWithAmpersand text = (front : List ℕ) × (text ≡ front ++ ampersand ∷ [])

-- The last result is a configuration with an element.
abbrev pub EndsWithElement : List Part → Type 0
EndsWithElement [] = ⊥
EndsWithElement (part ∷ []) = IsOkAnd part.result (λ c. c.elements ≢ [])
EndsWithElement (part ∷ next ∷ parts) = EndsWithElement (next ∷ parts)

-- The cut of two texts that an ampersand joins is theirs, one after another.
abbrev pub JoinsCuts : Type 0
JoinsCuts =
    (x y : List ℕ) (of_x of_y : List Part) → Cut x of_x → Cut y of_y
    → ¬ EndsWithAmpersand x → EndsWithElement of_x → IsKey (codes "GUID") (first_pair (pairs y))
    → Cut (x ++ ampersand ∷ y) (of_x ++ of_y)

-- All texts have exactly one cut, and joined texts that of both.
pub record OneCut : Type 0 where
  pub one : (text : List ℕ) → HasOneCut text
  pub joined : JoinsCuts
