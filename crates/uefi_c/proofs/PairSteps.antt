-- Pairs of a text, one by one.
use Rattle.std.proofs.Common.{◌≡◌, List, [], ◌∷◌, ◌++◌, map, sym, ap, ◌∙◌, append_assoc}
use Rattle.std.proofs.lemmas.List.{map-append}
use Rattle.uefi_hii.specs.Pairs.{Pair}
use Rattle.uefi_c.specs.declared.config.UefiPair.{UefiPair}
use Rattle.uefi_c.specs.Config.{pair_seen}

-- One pair more was seen.
pub one_more : (views more : List UefiPair) (pair : UefiPair) (left others all : List Pair)
    → more ≡ views ++ pair ∷ [] → left ≡ pair_seen pair ∷ others
    → map pair_seen views ++ left ≡ all → map pair_seen more ++ others ≡ all
one_more views more pair left others all added first so_far =
    ap (λ (t : List Pair). t ++ others) (ap (map pair_seen) added ∙ map-append pair_seen views (pair ∷ []))
    ∙ append_assoc (map pair_seen views) (pair_seen pair ∷ []) others
    ∙ ap (λ (t : List Pair). map pair_seen views ++ t) (sym first) ∙ so_far
