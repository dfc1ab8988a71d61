-- What the values of lists stand for: words that contracts name them by.
use Rattle.std.specs.Prelude.{ℕ, zero, suc, ◌/◌, List, [], ◌∷◌, length, take, drop}
use Rattle.uefi_map.specs.declared.pci.resource.QwordAddressSpaceDescriptor.{QwordAddressSpaceDescriptor}
use Rattle.uefi_map.specs.declared.pci.resource_iter.ResourceIter.{ResourceIter}
use Rattle.uefi_map.specs.declared.pci.resource_list.ResourceList.{ResourceList}
use Rattle.uefi_map.specs.pci.Resource.{record_length, resource_in}

-- The resources of a count of records, one record after another.
abbrev pub resources : ℕ → List ℕ → List QwordAddressSpaceDescriptor
resources zero records = []
resources (suc count) records = resource_in (take record_length records) ∷ resources count (drop record_length records)

-- The resources of whole records.
abbrev pub resources_in : List ℕ → List QwordAddressSpaceDescriptor
resources_in records = resources (length records / record_length) records

-- The resources of a list, in order.
abbrev pub resources_of : ResourceList → List QwordAddressSpaceDescriptor
resources_of list = resources_in list.records.now

-- The resources that an iterator still has to give.
abbrev pub resources_left : ResourceIter → List QwordAddressSpaceDescriptor
resources_left iter = resources_in iter.rest.now
