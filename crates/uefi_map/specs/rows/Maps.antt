-- Worked rows of the definitions: a firmware's map, a write, sizes that make no map, and the numbers of types and flags.
use Rattle.std.specs.Prelude.{◌≡◌, ℕ, List, [], ◌∷◌, ◌++◌, length, Some, None, true, false, codes, take, drop}
use Rattle.std.specs.Prelude.{replicate}
use Rattle.std.specs.List.{flat_map}
use Rattle.uefi_base.specs.LittleEndian.{u64_bytes}
use Rattle.uefi_map.specs.declared.memory.descriptor.MemoryDescriptor.{MemoryDescriptor}
use Rattle.uefi_map.specs.declared.memory.descriptor.TheConstants.MemoryDescriptor.{VERSION}
use Rattle.uefi_map.specs.declared.memory.map_error.MemoryMapError.TheVariants.{Misaligned, InvalidSize}
use Rattle.uefi_map.specs.declared.memory.memory_attribute.TheConstants.MemoryAttribute.{UNCACHEABLE, WRITE_COMBINE}
use Rattle.uefi_map.specs.declared.memory.memory_attribute.TheConstants.MemoryAttribute.{WRITE_THROUGH, WRITE_BACK}
use Rattle.uefi_map.specs.declared.memory.memory_attribute.TheConstants.MemoryAttribute.{UNCACHABLE_EXPORTED, RUNTIME, ISA_VALID, ISA_MASK}
use Rattle.uefi_map.specs.declared.memory.memory_attribute.TheConstants.MemoryAttribute.{WRITE_PROTECT, READ_PROTECT}
use Rattle.uefi_map.specs.declared.memory.memory_attribute.TheConstants.MemoryAttribute.{EXECUTE_PROTECT, READ_ONLY}
use Rattle.uefi_map.specs.declared.memory.memory_attribute.TheConstants.MemoryAttribute.{NON_VOLATILE, MORE_RELIABLE}
use Rattle.uefi_map.specs.declared.memory.memory_attribute.TheConstants.MemoryAttribute.{SPECIAL_PURPOSE, CPU_CRYPTO}
use Rattle.uefi_map.specs.declared.memory.memory_type.TheConstants.MemoryType.{RESERVED, LOADER_CODE, LOADER_DATA}
use Rattle.uefi_map.specs.declared.memory.memory_type.TheConstants.MemoryType.{BOOT_SERVICES_CODE, BOOT_SERVICES_DATA}
use Rattle.uefi_map.specs.declared.memory.memory_type.TheConstants.MemoryType.{RUNTIME_SERVICES_CODE}
use Rattle.uefi_map.specs.declared.memory.memory_type.TheConstants.MemoryType.{RUNTIME_SERVICES_DATA, CONVENTIONAL}
use Rattle.uefi_map.specs.declared.memory.memory_type.TheConstants.MemoryType.{UNUSABLE, ACPI_RECLAIM}
use Rattle.uefi_map.specs.declared.memory.memory_type.TheConstants.MemoryType.{ACPI_NON_VOLATILE, MMIO}
use Rattle.uefi_map.specs.declared.memory.memory_type.TheConstants.MemoryType.{MMIO_PORT_SPACE, PAL_CODE}
use Rattle.uefi_map.specs.declared.memory.memory_type.TheConstants.MemoryType.{PERSISTENT_MEMORY, UNACCEPTED}
use Rattle.uefi_map.specs.declared.memory.meta.MemoryMapMeta.{MemoryMapMeta}
use Rattle.uefi_map.specs.memory.Descriptor.{encoding, with_descriptor}
use Rattle.uefi_base.specs.Flags.{has_bits}
use Rattle.uefi_map.specs.memory.Flags.{named_attributes}
use Rattle.uefi_map.specs.memory.Map.{IsMap, IsSane, AreSorted, count_of, entry_of, entries_of}
use Rattle.uefi_map.specs.memory.Texts.{map_error_text}

-- A map with this length and stride.
abbrev pub sizes : ℕ → ℕ → MemoryMapMeta
sizes map_size desc_size = record {
  map_size = map_size;
  desc_size = desc_size;
  map_key = record { 0 = 0 };
  desc_version = 1;
}

-- A descriptor of a type, an address, pages and attributes; the other fields are zero.
abbrev pub entry : ℕ → ℕ → ℕ → ℕ → MemoryDescriptor
entry ty start pages attributes =
    record {
      ty = record { 0 = ty };
      padding = 0;
      phys_start = start;
      virt_start = 0;
      page_count = pages;
      att = record { 0 = attributes };
    }

-- Ten descriptors at a stride of 48, as firmware gave them.
abbrev pub firmware_numbers : List ℕ
firmware_numbers =
    (3 ∷ 0 ∷ 0 ∷ 1 ∷ 15 ∷ 0 ∷ [])
    ++ (7 ∷ 4096 ∷ 0 ∷ 134 ∷ 15 ∷ 0 ∷ [])
    ++ (4 ∷ 552960 ∷ 0 ∷ 1 ∷ 15 ∷ 0 ∷ [])
    ++ (7 ∷ 557056 ∷ 0 ∷ 24 ∷ 15 ∷ 0 ∷ [])
    ++ (7 ∷ 1048576 ∷ 0 ∷ 1792 ∷ 15 ∷ 0 ∷ [])
    ++ (10 ∷ 8388608 ∷ 0 ∷ 8 ∷ 15 ∷ 0 ∷ [])
    ++ (7 ∷ 8421376 ∷ 0 ∷ 3 ∷ 15 ∷ 0 ∷ [])
    ++ (10 ∷ 8433664 ∷ 0 ∷ 1 ∷ 15 ∷ 0 ∷ [])
    ++ (7 ∷ 8437760 ∷ 0 ∷ 4 ∷ 15 ∷ 0 ∷ [])
    ++ (10 ∷ 8454144 ∷ 0 ∷ 240 ∷ 15 ∷ 0 ∷ [])

abbrev pub firmware_map : List ℕ
firmware_map = flat_map u64_bytes firmware_numbers

pub record FirmwareMap : Type 0 where
  pub map : IsMap (length firmware_map) (sizes 480 48)
  pub sane : IsSane (sizes 480 48)
  pub count : count_of (sizes 480 48) ≡ 10
  pub second : entry_of firmware_map (sizes 480 48) 1 ≡ Some (entry 7 0x1000 134 0xf)
  pub eleventh : entry_of firmware_map (sizes 480 48) 10 ≡ None
  pub entries :
      entries_of firmware_map (sizes 480 48)
      ≡ entry 3 0 1 0xf
      ∷ entry 7 0x1000 134 0xf
      ∷ entry 4 0x87000 1 0xf
      ∷ entry 7 0x88000 24 0xf
      ∷ entry 7 0x100000 1792 0xf
      ∷ entry 10 0x800000 8 0xf
      ∷ entry 7 0x808000 3 0xf
      ∷ entry 10 0x80b000 1 0xf
      ∷ entry 7 0x80c000 4 0xf
      ∷ entry 10 0x810000 240 0xf
      ∷ []

-- The forty bytes of a descriptor, and a map to which one was written: its first stride and all from offset 88 on stay.
pub record WrittenDescriptor : Type 0 where
  pub bytes :
      encoding (entry 7 0x1000 134 0xf)
      ≡ 7 ∷ 0 ∷ 0 ∷ 0 ∷ 0 ∷ 0 ∷ 0 ∷ 0 ∷ 0 ∷ 0x10 ∷ replicate 14 0 ++ 0x86 ∷ replicate 7 0 ++ 0xf ∷ replicate 7 0
  pub before : take 48 (with_descriptor (replicate 480 0xee) 48 1 (entry 7 0x1000 134 0xf)) ≡ replicate 48 0xee
  pub written :
      take 40 (drop 48 (with_descriptor (replicate 480 0xee) 48 1 (entry 7 0x1000 134 0xf)))
      ≡ encoding (entry 7 0x1000 134 0xf)
  pub behind : drop 88 (with_descriptor (replicate 480 0xee) 48 1 (entry 7 0x1000 134 0xf)) ≡ replicate 392 0xee

-- Sizes with which eighty bytes are no map, and those of an empty one.
pub record NoMaps : Type 0 where
  pub no_stride : IsMap 80 (sizes 40 0) → ⊥
  pub short_stride : IsMap 80 (sizes 40 39) → ⊥
  pub odd_stride : IsMap 80 (sizes 41 41) → ⊥
  pub part_of_stride : IsMap 80 (sizes 41 40) → ⊥
  pub too_long : IsMap 80 (sizes 120 40) → ⊥
  pub empty : IsMap 80 (sizes 0 40)
  pub empty_insane : IsSane (sizes 0 40) → ⊥

-- Three descriptors that begin at ever lower addresses, and two that begin at the same.
abbrev pub level_map : List ℕ
level_map = encoding (entry 7 0x2000 1 0) ++ encoding (entry 7 0x2000 1 0)

pub record Orders : Type 0 where
  pub falling :
      AreSorted (encoding (entry 7 0x3000 1 0) ++ encoding (entry 7 0x2000 1 0) ++ encoding (entry 7 0x1000 1 0))
      (sizes 120 40) → ⊥
  pub level : AreSorted level_map (sizes 80 40)

-- The numbers of the types and the flags, and sets with and without a bit that has no name.
pub record Numbers : Type 0 where
  pub first_types : (RESERVED.0 ≡ 0) × (LOADER_CODE.0 ≡ 1) × (LOADER_DATA.0 ≡ 2) × (BOOT_SERVICES_CODE.0 ≡ 3)
      × (BOOT_SERVICES_DATA.0 ≡ 4)
  pub middle_types : (RUNTIME_SERVICES_CODE.0 ≡ 5) × (RUNTIME_SERVICES_DATA.0 ≡ 6) × (CONVENTIONAL.0 ≡ 7)
      × (UNUSABLE.0 ≡ 8) × (ACPI_RECLAIM.0 ≡ 9)
  pub last_types : (ACPI_NON_VOLATILE.0 ≡ 10) × (MMIO.0 ≡ 11) × (MMIO_PORT_SPACE.0 ≡ 12) × (PAL_CODE.0 ≡ 13)
      × (PERSISTENT_MEMORY.0 ≡ 14) × (UNACCEPTED.0 ≡ 15)
  pub attributes : (UNCACHEABLE.0 ≡ 1) × (WRITE_COMBINE.0 ≡ 2) × (WRITE_THROUGH.0 ≡ 4) × (WRITE_BACK.0 ≡ 8)
      × (UNCACHABLE_EXPORTED.0 ≡ 0x10) × (RUNTIME.0 ≡ 0x8000000000000000)
  pub protection : (WRITE_PROTECT.0 ≡ 0x1000) × (READ_PROTECT.0 ≡ 0x2000) × (EXECUTE_PROTECT.0 ≡ 0x4000)
      × (READ_ONLY.0 ≡ 0x20000) × (CPU_CRYPTO.0 ≡ 0x80000)
  pub kinds : (NON_VOLATILE.0 ≡ 0x8000) × (MORE_RELIABLE.0 ≡ 0x10000) × (SPECIAL_PURPOSE.0 ≡ 0x40000)
  pub architecture : (ISA_VALID.0 ≡ 0x4000000000000000) × (ISA_MASK.0 ≡ 0x0ffff00000000000)
  pub named : has_bits named_attributes 0x800000000000000f ≡ true
  pub unnamed : has_bits named_attributes 0x20 ≡ false
  pub version : VERSION ≡ 1
  pub texts : (map_error_text Misaligned ≡ codes "Misaligned") × (map_error_text InvalidSize ≡ codes "InvalidSize")

abbrev pub RowsHold : Type 0
RowsHold = FirmwareMap × WrittenDescriptor × NoMaps × Orders × Numbers
