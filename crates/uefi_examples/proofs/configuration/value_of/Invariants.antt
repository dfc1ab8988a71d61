use Rattle.std.proofs.Common.{◌≡◌, drop}
use Rattle.uefi_hii.specs.Views.{configuration_of}
use Rattle.uefi_examples.specs.Configurations.{value_at}
use Rattle.uefi_examples.proofs.Configurations.{found_in}
use Rattle.uefi_examples.proofs.configuration.value_of.Given as goal

-- The element is sought among those that are left.
abbrev pub invariant-loop-element : goal.invariant-loop-element
invariant-loop-element l =
    found_in l.offset l.width (drop l.element-index l.element-items) ≡ value_at l.offset l.width
    (configuration_of l.configuration)
