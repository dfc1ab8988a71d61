-- Memory maps (UEFI 2.10, 7.2) that are all the bytes, and descriptors of plain numbers.
use Rattle.std.specs.Prelude.{ℕ}
use Rattle.uefi_map.specs.declared.memory.descriptor.MemoryDescriptor.{MemoryDescriptor}
use Rattle.uefi_map.specs.declared.memory.meta.MemoryMapMeta.{MemoryMapMeta}
use Rattle.uefi_c.specs.declared.map.UefiDescriptor.{UefiDescriptor}

-- The sizes of a map with this length and stride. Its key has no meaning here.
abbrev pub sizes_of : ℕ → ℕ → MemoryMapMeta
sizes_of map_size desc_size = record { map_size = map_size; desc_size = desc_size; map_key = record { 0 = 0 }; desc_version = 1 }

-- The descriptor of these numbers.
abbrev pub descriptor_of : UefiDescriptor → MemoryDescriptor
descriptor_of seen = record {
  ty = record { 0 = seen.memory_type };
  padding = seen.padding;
  phys_start = seen.phys_start;
  virt_start = seen.virt_start;
  page_count = seen.page_count;
  att = record { 0 = seen.attribute };
}
