use Rattle.std.proofs.Common.{◌≡◌, ◌++◌, string_bytes, flat_map}
use Rattle.uefi_map.specs.pci.Views.{resources_of, resources_left}
use Rattle.uefi_listing.specs.Pci.{resource_line}
use Rattle.uefi_listing.proofs.pci.push_resources.Given as goal

abbrev pub invariant-loop-range : goal.invariant-loop-range
invariant-loop-range g l =
    string_bytes l.text ++ flat_map resource_line (resources_left l.range-iterator) ≡ string_bytes l.initial.text
    ++ flat_map resource_line (resources_of l.list)
