use Rattle.std.proofs.Common.{◌≡◌, ◌∙◌, ℕ, List, ◌++◌, flat_map, ap, append_assoc, sym}
use Rattle.std.proofs.lemmas.List.Folds.{flat_map-map}
use Rattle.uefi_hii.specs.Views.{element_of}
use Rattle.uefi_listing.specs.Config.{configuration_lines, element_lines}
use Rattle.uefi_listing.proofs.config.push_configuration.Goals as goal

-- Three texts that were appended one after another.
three_more : (old one two new a b c d : List ℕ) → one ≡ old ++ a → two ≡ one ++ b → new ≡ two ++ c → c ≡ d
    → new ≡ old ++ (a ++ b ++ d)
three_more old one two new a b c d first second third same = rw (third, second, first, same) (simp append_assoc)

pub returns : goal.returns
unfolding configuration_lines
returns g c =
    three_more _ _ _ _ _ _ _ _ c.in_ok-push_header.ensures c.in_ok-push_alt.ensures c.in_ok-push_elements.ensures
    (ap (flat_map (λ element. element_lines (element_of element))) c.as_slice.ensures.value
    ∙ sym (flat_map-map element_lines element_of c.args.configuration.now.elements.items))
