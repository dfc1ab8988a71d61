-- Laws of lists of PCI resources.
use Rattle.std.specs.Prelude.{◌≡◌, ◌⊎◌, ℕ, List}
use Rattle.uefi_map.specs.declared.pci.resource.QwordAddressSpaceDescriptor.{QwordAddressSpaceDescriptor}
use Rattle.uefi_map.specs.declared.pci.resource_error.ResourceError.{ResourceError}
use Rattle.uefi_map.specs.pci.ResourceList.{HaveList, HaveFault, HaveSomeList, HaveSomeFault}

-- All bytes begin with a list, or have a fault.
abbrev pub ListOrFault : Type 0
ListOrFault = (bytes : List ℕ) → HaveSomeList bytes ⊎ HaveSomeFault bytes

-- No bytes do both.
abbrev pub NeverBoth : Type 0
NeverBoth = (bytes : List ℕ) → HaveSomeList bytes → HaveSomeFault bytes → ⊥

-- They begin with one list at most.
abbrev pub ListAlone : Type 0
ListAlone = (bytes : List ℕ) (list other : List QwordAddressSpaceDescriptor) → HaveList bytes list
    → HaveList bytes other → list ≡ other

-- They have one fault at most.
abbrev pub FaultAlone : Type 0
FaultAlone = (bytes : List ℕ) (fault other : ResourceError) → HaveFault bytes fault → HaveFault bytes other
    → fault ≡ other
