-- Laws of memory maps.
use Rattle.std.specs.Prelude.{ℕ, ◌≡◌, ◌<◌, List, length}
use Rattle.uefi_map.specs.declared.memory.meta.MemoryMapMeta.{MemoryMapMeta}
use Rattle.uefi_map.specs.declared.memory.descriptor.MemoryDescriptor.{MemoryDescriptor}
use Rattle.uefi_map.specs.memory.Descriptor.{Fits, descriptor_bytes, with_descriptor}
use Rattle.uefi_map.specs.memory.Map.{IsMap, SetsOnly, count_of, entries_of}

-- Maps with the same forty bytes of each descriptor have the same entries, whatever the rest of each stride and the
-- bytes after the map are.
abbrev pub SameEntries : Type 0
SameEntries =
    (one other : List ℕ) (meta : MemoryMapMeta)
    → ((i : ℕ) → i < count_of meta → descriptor_bytes one meta.desc_size i ≡ descriptor_bytes other meta.desc_size i)
    → entries_of one meta ≡ entries_of other meta

-- A descriptor that is written to index i of a map is read there, and the other descriptors, the rest of each
-- stride and the bytes after the map stay.
abbrev pub WritesOne : Type 0
WritesOne =
    (bytes : List ℕ) (meta : MemoryMapMeta) (i : ℕ) (d : MemoryDescriptor) → IsMap (length bytes) meta
    → i < count_of meta → Fits d
    → SetsOnly bytes (with_descriptor bytes meta.desc_size i d) meta i d
