-- Lists of PCI resources: records, and then the end tag (UEFI 2.10, 14.2
-- "EFI_PCI_ROOT_BRIDGE_IO_PROTOCOL.Configuration()"; ACPI 6.5, 6.4.2.9 "End Tag").
use Rattle.std.specs.Prelude.{◌≡◌, ◌≢◌, ℕ, ◌<◌, List, [], ◌∷◌, ◌++◌, length, Result, IfOk, IfErr}
use Rattle.uefi_map.specs.declared.pci.resource.QwordAddressSpaceDescriptor.{QwordAddressSpaceDescriptor}
use Rattle.uefi_map.specs.declared.pci.resource_error.ResourceError.{ResourceError}
use Rattle.uefi_map.specs.declared.pci.resource_error.ResourceError.TheVariants.{NoEndTag, CutRecord, UnknownTag, Memory}
use Rattle.uefi_map.specs.pci.Resource.{record_tag, record_length, IsRecord}

-- The first byte of the end tag. Nothing after it belongs to the list.
abbrev pub end_tag : ℕ
end_tag = 0x79

-- The bytes are a record of each resource, one record after another, and then the rest.
abbrev pub BeginWithRecords : List ℕ → List QwordAddressSpaceDescriptor → List ℕ → Type 0
BeginWithRecords bytes [] rest = bytes ≡ rest
BeginWithRecords bytes (resource ∷ others) rest =
    (first after : List ℕ) × IsRecord first resource × BeginWithRecords after others rest × (bytes ≡ first ++ after)

-- The first of the bytes is this one.
abbrev pub BeginWith : List ℕ → ℕ → Type 0
BeginWith bytes first = (after : List ℕ) × (bytes ≡ first ∷ after)

-- The bytes begin with the list: records of its resources, and then the end tag.
abbrev pub HaveList : List ℕ → List QwordAddressSpaceDescriptor → Type 0
HaveList bytes list = (rest : List ℕ) × BeginWithRecords bytes list rest × BeginWith rest end_tag

-- The rest begins neither with a record nor with the end tag, for this reason.
abbrev pub IsFaultOf : List ℕ → ResourceError → Type 0
IsFaultOf rest NoEndTag = rest ≡ []
IsFaultOf rest CutRecord = BeginWith rest record_tag × (length rest < record_length)
IsFaultOf rest (UnknownTag tag) = BeginWith rest tag × (tag ≢ record_tag) × (tag ≢ end_tag)
IsFaultOf rest Memory = ⊥

-- The bytes have the fault: it comes after some records.
abbrev pub HaveFault : List ℕ → ResourceError → Type 0
HaveFault bytes fault = (list : List QwordAddressSpaceDescriptor) × (rest : List ℕ)
    × BeginWithRecords bytes list rest × IsFaultOf rest fault

-- The bytes begin with some list, or have some fault.
abbrev pub HaveSomeList : List ℕ → Type 0
HaveSomeList bytes = (list : List QwordAddressSpaceDescriptor) × HaveList bytes list

abbrev pub HaveSomeFault : List ℕ → Type 0
HaveSomeFault bytes = (fault : ResourceError) × HaveFault bytes fault

-- The bytes begin with the list, with no other, and have no fault.
pub record HaveOneList (bytes : List ℕ) (list : List QwordAddressSpaceDescriptor) : Type 0 where
  pub stands : HaveList bytes list
  pub no_other : (other : List QwordAddressSpaceDescriptor) → HaveList bytes other → other ≡ list
  pub no_fault : ¬ HaveSomeFault bytes

-- The bytes have the fault, no other, and begin with no list.
pub record HaveOneFault (bytes : List ℕ) (fault : ResourceError) : Type 0 where
  pub stands : HaveFault bytes fault
  pub no_other : (other : ResourceError) → HaveFault bytes other → other ≡ fault
  pub no_list : ¬ HaveSomeList bytes

-- The result of reading the bytes: a view of the one list that they begin with, or the one fault that they have.
pub record ReadsList {V : Type 0} (resources_of : V → List QwordAddressSpaceDescriptor) (bytes : List ℕ)
    (read : Result V ResourceError) : Type 0 where
  pub list : IfOk read (λ view. HaveOneList bytes (resources_of view))
  pub fault : IfErr read (λ fault. HaveOneFault bytes fault)
