-- What `pci` lists: the PCI resources that the bytes begin with.
use Rattle.std.specs.Prelude.{ℕ, List, ◌++◌, length, codes, flat_map, ◌≡◌, []}
use Rattle.std.specs.Fmt.{decimal}
use Rattle.uefi_map.specs.declared.pci.resource.QwordAddressSpaceDescriptor.{QwordAddressSpaceDescriptor}
use Rattle.uefi_map.specs.declared.pci.resource.ResourceRangeType.{ResourceRangeType}
use Rattle.shown.specs.HexText.{hex_number}
use Rattle.uefi_map.specs.declared.pci.resource_error.ResourceError.{ResourceError}
use Rattle.uefi_map.specs.declared.pci.resource_error.ResourceError.TheVariants.{NoEndTag, CutRecord, UnknownTag}
use Rattle.uefi_map.specs.declared.pci.resource_error.ResourceError.TheVariants.{Memory}
use Rattle.uefi_map.specs.pci.ResourceList.{HaveList, HaveFault}
use Rattle.uefi_listing.specs.declared.listing.Outcome.{Outcome}
use Rattle.uefi_listing.specs.declared.listing.Outcome.TheVariants.{Listed, Refused}
use Rattle.uefi_map.specs.declared.pci.resource.ResourceRangeType.TheVariants as kind

-- The name of a range's type, with its number if it has no name.
unfoldable pub kind_text : ResourceRangeType → List ℕ
kind_text kind.Memory = codes "Memory"
kind_text kind.Io = codes "Io"
kind_text kind.Bus = codes "Bus"
kind_text (kind.Unknown number) = codes "Unknown(" ++ decimal number ++ codes ")"

-- The type, both flags in decimal, and the five numbers in hex.
unfoldable pub resource_line : QwordAddressSpaceDescriptor → List ℕ
resource_line range =
    codes "resource " ++ kind_text range.resource_range_type
    ++ codes " " ++ decimal range.general_flags
    ++ codes " " ++ decimal range.type_specific_flags
    ++ codes " " ++ hex_number range.granularity
    ++ codes " " ++ hex_number range.address_min
    ++ codes " " ++ hex_number range.address_max
    ++ codes " " ++ hex_number range.translation_offset
    ++ codes " " ++ hex_number range.address_length
    ++ codes "\n"

-- A line for each range, and their count.
abbrev pub resource_lines : List QwordAddressSpaceDescriptor → List ℕ
resource_lines list = flat_map resource_line list ++ codes "resources " ++ decimal (length list) ++ codes "\n"

-- The line that names a fault. Running out of memory is none, and has no line.
unfoldable pub fault_line : ResourceError → List ℕ
fault_line NoEndTag = codes "refused NoEndTag\n"
fault_line CutRecord = codes "refused CutRecord\n"
fault_line (UnknownTag tag) = codes "refused UnknownTag(" ++ decimal tag ++ codes ")\n"
fault_line Memory = []

-- The text lists the resources that the bytes begin with. If they begin with no list, it names their fault.
abbrev pub PciListing : List ℕ → List ℕ → Outcome → Type 0
PciListing bytes text Listed = (list : List QwordAddressSpaceDescriptor) × HaveList bytes list × (text ≡ resource_lines list)
PciListing bytes text Refused = (fault : ResourceError) × HaveFault bytes fault × (text ≡ fault_line fault)
