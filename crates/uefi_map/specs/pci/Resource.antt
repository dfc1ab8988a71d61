-- Records of PCI resources (ACPI 6.5, 6.4.3.5.1 "QWord Address Space Descriptor").
use Rattle.std.specs.Prelude.{◌≡◌, ℕ, List, length, slice_index, if◌then◌else◌, ◌==◌}
use Rattle.uefi_base.specs.LittleEndian.{u64_at}
use Rattle.uefi_map.specs.declared.pci.resource.QwordAddressSpaceDescriptor.{QwordAddressSpaceDescriptor}
use Rattle.uefi_map.specs.declared.pci.resource.ResourceRangeType.{ResourceRangeType}
use Rattle.uefi_map.specs.declared.pci.resource.ResourceRangeType.TheVariants.{Memory, Io, Bus, Unknown}

-- The first byte of a record, and its length.
abbrev pub record_tag : ℕ
record_tag = 0x8a

abbrev pub record_length : ℕ
record_length = 46

-- What a range is made of, by its number.
abbrev pub range_type : ℕ → ResourceRangeType
range_type number = if number == 0 then Memory else if number == 1 then Io else if number == 2 then Bus else Unknown number

-- The number of what a range is made of.
abbrev pub type_number : ResourceRangeType → ℕ
type_number Memory = 0
type_number Io = 1
type_number Bus = 2
type_number (Unknown number) = number

-- The resource with these fields.
abbrev pub resource_given : ResourceRangeType → ℕ → ℕ → ℕ → ℕ → ℕ → ℕ → ℕ → QwordAddressSpaceDescriptor
resource_given kind general_flags type_specific_flags granularity address_min address_max translation_offset address_length =
    record {
      resource_range_type = kind;
      general_flags = general_flags;
      type_specific_flags = type_specific_flags;
      granularity = granularity;
      address_min = address_min;
      address_max = address_max;
      translation_offset = translation_offset;
      address_length = address_length;
    }

-- The resource in the bytes of a record, each field at its offset, little-endian.
unfoldable pub resource_in : List ℕ → QwordAddressSpaceDescriptor
resource_in bytes = record {
  resource_range_type = range_type (slice_index bytes 3);
  general_flags = slice_index bytes 4;
  type_specific_flags = slice_index bytes 5;
  granularity = u64_at bytes 6;
  address_min = u64_at bytes 14;
  address_max = u64_at bytes 22;
  translation_offset = u64_at bytes 30;
  address_length = u64_at bytes 38;
}

-- The bytes are a record of the resource: as many as a record has, the tag first, and the fields at their offsets.
-- The two bytes after the tag are free.
pub record IsRecord (bytes : List ℕ) (resource : QwordAddressSpaceDescriptor) : Type 0 where
  pub size : length bytes ≡ record_length
  pub tag : slice_index bytes 0 ≡ record_tag
  pub fields : resource ≡ resource_in bytes
