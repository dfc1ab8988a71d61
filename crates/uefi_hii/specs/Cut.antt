-- The cut of a text into groups, each with its result (UEFI 2.10, 35.2.1 "String Syntax").
use Rattle.std.specs.Prelude.{◌≡◌, ℕ, List, [], ◌∷◌, Option, Result, map, slice_get, ⊤}
use Rattle.std.specs.List.{flat_map}
use Rattle.uefi_hii.specs.declared.error.ParseError.{ParseError}
use Rattle.uefi_hii.specs.Pairs.{Pair, pairs}
use Rattle.uefi_hii.specs.Configuration.{Configuration}
use Rattle.uefi_hii.specs.Group.{Group}

-- A part of a cut: a group of pairs, and its result.
pub record Part : Type 0 where
  pub group : List Pair
  pub result : Result Configuration ParseError

-- The pairs of all parts, one part after another.
abbrev pub pairs_of : List Part → List Pair
pairs_of parts = flat_map (λ part. part.group) parts

abbrev pub results_of : List Part → List (Result Configuration ParseError)
results_of parts = map (λ part. part.result) parts

abbrev pub first_pair : List Pair → Option Pair
first_pair pairs = slice_get pairs 0

-- Each part has a group and its result, before the first pair of the next part.
abbrev pub AreGroups : List Part → Type 0
AreGroups [] = ⊤
AreGroups (part ∷ parts) = Group part.group (slice_get (pairs_of parts) 0) part.result × AreGroups parts

-- The cut of a text: groups that together are its pairs.
pub record Cut (text : List ℕ) (parts : List Part) : Type 0 where
  pub whole : pairs_of parts ≡ pairs text
  pub each : AreGroups parts
