use Rattle.std.proofs.Common.{List, length}
use Rattle.uefi_map.specs.declared.pci.resource.QwordAddressSpaceDescriptor.{QwordAddressSpaceDescriptor}
use Rattle.uefi_map.specs.pci.ResourceList.{BeginWithRecords}
use Rattle.uefi_map.proofs.pci.resource_list.ResourceListTryFromRefSliceU8.try_from.Given as goal

abbrev pub invariant-loop-after : goal.invariant-loop-after
invariant-loop-after l = (list : List QwordAddressSpaceDescriptor) × BeginWithRecords l.bytes list l.rest

abbrev pub decreases-loop-after : goal.decreases-loop-after
decreases-loop-after l = length l.rest
