-- Tagged events read one after another.
use Rattle.std.proofs.Common.{◌≡◌, ◌∙◌, ℕ, List, [], ◌∷◌, ◌++◌, append_assoc, map, subst, sym}
use Rattle.std.specs.List.{concat}
use Rattle.std.proofs.lemmas.List.{append_cancel_left}
use Rattle.tcg_event.specs.Tagged.{AreTagged, Tagged, tagged_bytes}

-- After the first one.
pub one_less : (bytes left rest : List ℕ) (event : Tagged) (events others : List Tagged) → AreTagged bytes events rest
    → events ≡ event ∷ others → bytes ≡ tagged_bytes event ++ left → AreTagged left others rest
one_less bytes left rest event events others are first split =
    let them : AreTagged bytes (event ∷ others) rest = subst (λ es. AreTagged bytes es rest) first are in
    record {
      are_tagged = them.are_tagged.1;
      in_bytes =
          append_cancel_left (tagged_bytes event) left (concat (map tagged_bytes others) ++ rest)
          (sym split ∙ them.in_bytes ∙ append_assoc (tagged_bytes event) (concat (map tagged_bytes others)) rest);
      no_more = them.no_more;
    }

-- After the last one.
pub none_left : (bytes rest : List ℕ) (events : List Tagged) → AreTagged bytes events rest → events ≡ [] → bytes ≡ rest
none_left bytes rest events are none = (subst (λ es. AreTagged bytes es rest) none are).in_bytes
