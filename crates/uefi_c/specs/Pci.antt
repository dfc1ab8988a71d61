-- Resources of PCI root bridges (ACPI 6.5, 6.4.3.5.1), as a cursor over a list gives them.
use Rattle.std.specs.Prelude.{ℕ, ◌≡◌, ◌≤◌, List, [], ◌∷◌, length}
use Rattle.uefi_map.specs.declared.pci.resource.QwordAddressSpaceDescriptor.{QwordAddressSpaceDescriptor}
use Rattle.uefi_map.specs.declared.pci.resource_error.ResourceError.TheVariants.{NoEndTag, CutRecord, UnknownTag}
use Rattle.uefi_map.specs.pci.Resource.{range_type, resource_given, record_tag, record_length}
use Rattle.uefi_map.specs.pci.ResourceList.{BeginWith, IsFaultOf, end_tag}
use Rattle.uefi_c.specs.Status.{IsOneOf, ok, ended, no_end, cut, unknown_tag}
use Rattle.uefi_c.specs.declared.pci.UefiResource.{UefiResource}

abbrev pub resource_seen : UefiResource → QwordAddressSpaceDescriptor
resource_seen seen =
    resource_given (range_type seen.range_type) seen.general_flags seen.type_specific_flags seen.granularity
    seen.address_min seen.address_max seen.translation_offset seen.address_length

-- What each status says of the rest of a list: a record, the end tag, or a fault.
pub record IsStep (rest : List ℕ) (step : ℕ) : Type 0 where
  pub known : IsOneOf step (ok ∷ ended ∷ no_end ∷ cut ∷ unknown_tag ∷ [])
  pub whole_record : step ≡ ok → BeginWith rest record_tag × (record_length ≤ length rest)
  pub end : step ≡ ended → BeginWith rest end_tag
  pub no_end_tag : step ≡ no_end → IsFaultOf rest NoEndTag
  pub cut_record : step ≡ cut → IsFaultOf rest CutRecord
  pub another_tag : step ≡ unknown_tag → (tag : ℕ) × IsFaultOf rest (UnknownTag tag)
