-- What maps that lend their buffer keep.
use Rattle.std.specs.Prelude.{ℕ, ◌%◌, ◌≤◌, ◌≡◌, List, length}
use Rattle.uefi_map.specs.memory.Descriptor.{descriptor_length, descriptor_alignment}
use Rattle.uefi_map.specs.declared.memory.meta.MemoryMapMeta.{MemoryMapMeta}

-- The bytes are whole strides, each with room for a descriptor.
pub record AreStrides (stride : ℕ) (bytes : List ℕ) : Type 0 where
  pub room : descriptor_length ≤ stride
  pub whole : length bytes % stride ≡ 0

-- The sizes make a map of a buffer that is long enough.
pub record HasWholeStrides (meta : MemoryMapMeta) : Type 0 where
  pub room : descriptor_length ≤ meta.desc_size
  pub aligned : meta.desc_size % descriptor_alignment ≡ 0
  pub whole : meta.map_size % meta.desc_size ≡ 0
