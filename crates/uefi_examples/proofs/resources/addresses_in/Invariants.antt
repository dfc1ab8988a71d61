use Rattle.std.proofs.Common.{◌≡◌, ◌+◌}
use Rattle.std.specs.Prelude.{sum_by}
use Rattle.uefi_map.specs.pci.Views.{resources_left}
use Rattle.uefi_examples.proofs.resources.addresses_in.Given as goal

abbrev pub invariant-loop-range : goal.invariant-loop-range
invariant-loop-range l =
    l.addresses + sum_by (λ range. range.address_length) (resources_left l.range-iterator)
    ≡ sum_by (λ range. range.address_length) (resources_left l.initial.range-iterator)
