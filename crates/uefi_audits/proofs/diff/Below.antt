-- The differences of PCRs, one after another.
use Rattle.std.proofs.Common.{◌≡◌, ◌∙◌, ℕ, ◌+◌, List, [], ◌∷◌, ◌++◌, add-one, ap, append-nil, map, subst, sym}
use Rattle.std.specs.Prelude.{Option, None, Some, option_map, option_to_list}
use Rattle.std.proofs.lemmas.List.{map-append}
use Rattle.uefi_audits.specs.declared.diff.difference.PcrDifference.{PcrDifference}
use Rattle.uefi_audits.specs.diff.Differences.{Difference, DifferBelow, IsDifference, Parts}
use Rattle.uefi_audits.specs.diff.Numbered.{Numbered, of_pcr}
use Rattle.uefi_audits.specs.diff.Views.{difference_of}

pub none_below : (parts : Parts) (old new : List Numbered) (found : List Difference) → found ≡ [] → DifferBelow parts 0 old new found
unfolding DifferBelow
none_below parts old new found none = none

-- One more PCR.
one_more : (parts : Parts) (old new : List Numbered) (pcr : ℕ) (before after : List Difference) (here : Option Difference)
    → DifferBelow parts pcr old new before → IsDifference parts pcr (of_pcr pcr old) (of_pcr pcr new) here
    → after ≡ before ++ option_to_list here → DifferBelow parts (pcr + 1) old new after
unfolding DifferBelow
one_more parts old new pcr before after here below is grown =
    subst (λ n. DifferBelow parts n old new after) (sym (add-one pcr)) (before, here, below, is, grown)

-- Its events are the same; or they differ.
pub one_same : (parts : Parts) (old new : List Numbered) (pcr : ℕ) (found : List PcrDifference) (here : Option PcrDifference)
    → DifferBelow parts pcr old new (map difference_of found)
    → IsDifference parts pcr (of_pcr pcr old) (of_pcr pcr new) (option_map difference_of here) → here ≡ None
    → DifferBelow parts (pcr + 1) old new (map difference_of found)
one_same parts old new pcr found here below is none =
    one_more parts old new pcr (map difference_of found) (map difference_of found) None below
    (subst (λ it. IsDifference parts pcr (of_pcr pcr old) (of_pcr pcr new) (option_map difference_of it)) none is)
    (sym (append-nil (map difference_of found)))

pub one_differs : (parts : Parts) (old new : List Numbered) (pcr : ℕ) (found next : List PcrDifference) (here : Option PcrDifference)
    (difference : PcrDifference) → DifferBelow parts pcr old new (map difference_of found)
    → IsDifference parts pcr (of_pcr pcr old) (of_pcr pcr new) (option_map difference_of here) → here ≡ Some difference
    → next ≡ found ++ difference ∷ [] → DifferBelow parts (pcr + 1) old new (map difference_of next)
one_differs parts old new pcr found next here difference below is one pushed =
    one_more parts old new pcr (map difference_of found) (map difference_of next) (Some (difference_of difference)) below
    (subst (λ it. IsDifference parts pcr (of_pcr pcr old) (of_pcr pcr new) (option_map difference_of it)) one is)
    (ap (map difference_of) pushed ∙ map-append difference_of found (difference ∷ []))
