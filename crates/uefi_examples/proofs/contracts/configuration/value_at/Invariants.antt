use Rattle.std.proofs.Common.{◌≡◌, drop}
use Rattle.std.specs.Prelude.{◌==◌, map}
use Rattle.std.specs.List.{find}
use Rattle.uefi_hii.specs.Views.{configuration_of, element_of}
use Rattle.uefi_examples.proofs.contracts.configuration.value_at.Given as goal

-- The element is sought among those that are left.
abbrev pub invariant-loop-element : goal.invariant-loop-element
invariant-loop-element l =
    find (λ element. element.offset == l.offset) (map element_of (drop l.element-index l.element-items))
    ≡ find (λ element. element.offset == l.offset) (configuration_of l.configuration).elements
