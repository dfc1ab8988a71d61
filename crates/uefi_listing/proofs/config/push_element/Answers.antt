use Rattle.std.proofs.Common.{◌≡◌, ◌∙◌, ℕ, List, ◌++◌, flat_map, ap, append_assoc, sym}
use Rattle.std.proofs.lemmas.List.Folds.{flat_map-map}
use Rattle.uefi_hii.specs.Views.{nv_pair_of}
use Rattle.uefi_listing.specs.Config.{element_lines, nv_line}
use Rattle.uefi_listing.proofs.config.push_element.Goals as goal

-- Two texts that were appended one after another.
two_more : (old one new a b c : List ℕ) → one ≡ old ++ a → new ≡ one ++ b → b ≡ c → new ≡ old ++ (a ++ c)
two_more old one new a b c first second same = rw (second, first, same) (simp append_assoc)

pub returns : goal.returns
unfolding element_lines
returns g c =
    two_more _ _ _ _ _ _ c.in_ok-push_element_line.ensures c.in_ok-push_nvconfig.ensures
    (ap (flat_map (λ pair. nv_line (nv_pair_of pair))) c.as_slice.ensures.value
    ∙ sym (flat_map-map nv_line nv_pair_of c.args.element.now.nvconfig.items))
