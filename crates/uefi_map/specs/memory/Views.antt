-- What the values of maps stand for: words that contracts name them by.
use Rattle.std.specs.Prelude.{ℕ, ◌/◌, List, length, ◌≡◌}
use Rattle.uefi_map.specs.declared.memory.memory_attribute.MemoryAttribute.{MemoryAttribute}
use Rattle.uefi_map.specs.declared.memory.meta.MemoryMapKey.{MemoryMapKey}
use Rattle.uefi_map.specs.declared.memory.meta.MemoryMapMeta.{MemoryMapMeta}
use Rattle.uefi_map.specs.declared.memory.descriptor.MemoryDescriptor.{MemoryDescriptor}
use Rattle.uefi_map.specs.declared.memory.iter.MemoryMapIter.{MemoryMapIter}
use Rattle.uefi_map.specs.declared.memory.map_ref.MemoryMapRef.{MemoryMapRef}
use Rattle.uefi_map.specs.memory.Map.{descriptors_from, meta_within}
use Rattle.std.specs.Borrow.{MutBor}
use Rattle.std.specs.Vec.{with_items}
use Rattle.uefi_map.specs.declared.memory.map_ref_mut.MemoryMapRefMut.{MemoryMapRefMut}
use Rattle.uefi_map.specs.declared.memory.map_owned.MemoryMapOwned.{MemoryMapOwned}

-- The bits of a set, as a number.
abbrev pub attribute_bits : MemoryAttribute → ℕ
attribute_bits attribute = attribute.0

-- The number of a key.
abbrev pub key_number : MemoryMapKey → ℕ
key_number key = key.0

-- The descriptors that an iterator still has to give.
abbrev pub entries_left : MemoryMapIter → List MemoryDescriptor
entries_left iter = descriptors_from iter.rest.now iter.stride 0 (length iter.rest.now / iter.stride)

-- The buffer and the sizes of a map over bytes that are read.
abbrev pub ref_bytes : MemoryMapRef → List ℕ
ref_bytes map = map.buffer.now

abbrev pub ref_meta : MemoryMapRef → MemoryMapMeta
ref_meta map = map.meta

-- The buffer and the sizes of a map over bytes that can be written.
abbrev pub mut_bytes : MemoryMapRefMut → List ℕ
mut_bytes map = map.buffer.now

abbrev pub mut_meta : MemoryMapRefMut → MemoryMapMeta
mut_meta map = meta_within (length map.buffer.now) map.sizes

-- The map with the bytes in its buffer.
abbrev pub mut_with : MemoryMapRefMut → List ℕ → MemoryMapRefMut
mut_with map bytes = record map { buffer = record map.buffer { now = bytes } }

-- The map writes to what the reference borrows.
abbrev pub WritesTo : MutBor (List ℕ) → MemoryMapRefMut → Type 0
WritesTo buffer map = map.buffer.ghost_name ≡ buffer.ghost_name

-- Both maps write to what one reference borrows.
abbrev pub WriteToTheSame : MemoryMapRefMut → MemoryMapRefMut → Type 0
WriteToTheSame one other = other.buffer.ghost_name ≡ one.buffer.ghost_name

-- The buffer and the sizes of a map that owns its bytes.
abbrev pub owned_bytes : {A : Type 0} → MemoryMapOwned A → List ℕ
owned_bytes map = map.buffer.items

abbrev pub owned_meta : {A : Type 0} → MemoryMapOwned A → MemoryMapMeta
owned_meta map = meta_within (length map.buffer.items) map.sizes

-- The map with the bytes in its buffer.
abbrev pub owned_with : {A : Type 0} → MemoryMapOwned A → List ℕ → MemoryMapOwned A
owned_with map bytes = record map { buffer = with_items map.buffer bytes }
