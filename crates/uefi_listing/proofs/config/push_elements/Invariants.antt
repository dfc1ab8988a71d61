use Rattle.std.proofs.Common.{◌≡◌, ◌++◌, take, string_bytes, flat_map}
use Rattle.uefi_hii.specs.Views.{element_of}
use Rattle.uefi_listing.specs.Config.{element_lines}
use Rattle.uefi_listing.proofs.config.push_elements.Given as goal

abbrev pub invariant-loop-element : goal.invariant-loop-element
invariant-loop-element g l =
    string_bytes l.text ≡ string_bytes l.initial.text
    ++ flat_map (λ element. element_lines (element_of element)) (take l.element-index l.elements)
