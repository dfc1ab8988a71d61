-- Memory maps (UEFI 2.10, 7.2 "EFI_BOOT_SERVICES.GetMemoryMap()"), and how a write changes one.
use Rattle.std.specs.Prelude.{ℕ, zero, suc, ◌+◌, ◌/◌, ◌%◌, ◌^◌, ◌≤◌, ◌<◌, ◌≡◌, List, [], ◌∷◌, Option, Some, None}
use Rattle.std.specs.Prelude.{if◌then◌else◌, nat_lt, ◌*◌, ◌≢◌, length, take, drop, nat_le}
use Rattle.uefi_map.specs.declared.memory.meta.MemoryMapMeta.{MemoryMapMeta}
use Rattle.uefi_map.specs.declared.memory.descriptor.MemoryDescriptor.{MemoryDescriptor}
use Rattle.uefi_map.specs.memory.Descriptor.{descriptor_length, descriptor_alignment, descriptor, with_descriptor}

-- A buffer with this length has a map with these sizes: the stride has room for a descriptor and keeps it aligned,
-- and the map is whole strides and within the buffer.
pub record IsMap (length : ℕ) (meta : MemoryMapMeta) : Type 0 where
  pub room : descriptor_length ≤ meta.desc_size
  pub aligned : meta.desc_size % descriptor_alignment ≡ 0
  pub whole : meta.map_size % meta.desc_size ≡ 0
  pub within : meta.map_size ≤ length

-- The sizes are such as firmware gives: a stride with room for a descriptor, and a map of 1 byte to 1 GiB.
pub record IsSane (meta : MemoryMapMeta) : Type 0 where
  pub room : descriptor_length ≤ meta.desc_size
  pub some : 1 ≤ meta.map_size
  pub not_huge : meta.map_size ≤ 2 ^ 30

-- The count of descriptors.
abbrev pub count_of : MemoryMapMeta → ℕ
count_of meta = meta.map_size / meta.desc_size

-- A count of descriptors, from the one at an index on.
abbrev pub descriptors_from : List ℕ → ℕ → ℕ → ℕ → List MemoryDescriptor
descriptors_from bytes stride i zero = []
descriptors_from bytes stride i (suc count) = descriptor bytes stride i ∷ descriptors_from bytes stride (i + 1) count

-- All descriptors of a map, in order.
abbrev pub entries_of : List ℕ → MemoryMapMeta → List MemoryDescriptor
entries_of bytes meta = descriptors_from bytes meta.desc_size 0 (count_of meta)

-- Descriptor i of a map, if there is one.
abbrev pub entry_of : List ℕ → MemoryMapMeta → ℕ → Option MemoryDescriptor
entry_of bytes meta i = if nat_lt i (count_of meta) then Some (descriptor bytes meta.desc_size i) else None

-- No descriptor of a map begins below the one before it.
abbrev pub AreSorted : List ℕ → MemoryMapMeta → Type 0
AreSorted bytes meta = (i : ℕ) → i + 1 < count_of meta
    → (descriptor bytes meta.desc_size i).phys_start ≤ (descriptor bytes meta.desc_size (i + 1)).phys_start

-- The sizes of the map in a buffer with this length: these, or those of an empty map if the buffer is too short.
abbrev pub meta_within : ℕ → MemoryMapMeta → MemoryMapMeta
meta_within length meta = record meta { map_size = if nat_le meta.map_size length then meta.map_size else 0 }

-- The new bytes are the old, with the forty of descriptor i replaced by those of d.
abbrev pub IsWithDescriptor : List ℕ → MemoryMapMeta → ℕ → MemoryDescriptor → List ℕ → Type 0
IsWithDescriptor old meta i d new = new ≡ with_descriptor old meta.desc_size i d

-- The new bytes are the old, but for descriptor i, which is d.
pub record SetsOnly (old new : List ℕ) (meta : MemoryMapMeta) (i : ℕ) (d : MemoryDescriptor) : Type 0 where
  pub set : descriptor new meta.desc_size i ≡ d
  pub others : (j : ℕ) → j < count_of meta → j ≢ i → descriptor new meta.desc_size j ≡ descriptor old meta.desc_size j
  pub before : take (i * meta.desc_size) new ≡ take (i * meta.desc_size) old
  pub after : drop (i * meta.desc_size + descriptor_length) new ≡ drop (i * meta.desc_size + descriptor_length) old
  pub same_length : length new ≡ length old
