-- Memory descriptors (UEFI 2.10, 7.2 "EFI_BOOT_SERVICES.GetMemoryMap()", EFI_MEMORY_DESCRIPTOR), and how one is written.
use Rattle.std.specs.Prelude.{ℕ, ◌+◌, ◌*◌, List, ◌++◌, slice_range, ◌<◌, ◌^◌, take, drop}
use Rattle.uefi_base.specs.LittleEndian.{u32_at, u32_bytes, u64_at, u64_bytes}
use Rattle.uefi_map.specs.declared.memory.descriptor.MemoryDescriptor.{MemoryDescriptor}

-- The length of a descriptor, and its alignment in memory.
abbrev pub descriptor_length : ℕ
descriptor_length = 40

abbrev pub descriptor_alignment : ℕ
descriptor_alignment = 8

-- The descriptor in forty bytes, each field at its offset, little-endian.
unfoldable pub descriptor_in : List ℕ → MemoryDescriptor
descriptor_in bytes = record {
  ty = record { 0 = u32_at bytes 0 };
  padding = u32_at bytes 4;
  phys_start = u64_at bytes 8;
  virt_start = u64_at bytes 16;
  page_count = u64_at bytes 24;
  att = record { 0 = u64_at bytes 32 };
}

-- The forty bytes of a descriptor.
unfoldable pub encoding : MemoryDescriptor → List ℕ
encoding d =
    u32_bytes d.ty.0
    ++ (u32_bytes d.padding
    ++ (u64_bytes d.phys_start ++ (u64_bytes d.virt_start ++ (u64_bytes d.page_count ++ u64_bytes d.att.0))))

-- The descriptor of which every field is zero.
abbrev pub zero_descriptor : MemoryDescriptor
zero_descriptor = record {
  ty = record { 0 = 0 };
  padding = 0;
  phys_start = 0;
  virt_start = 0;
  page_count = 0;
  att = record { 0 = 0 };
}

-- The forty bytes of descriptor i, at i times the stride.
abbrev pub descriptor_bytes : List ℕ → ℕ → ℕ → List ℕ
descriptor_bytes bytes stride i = slice_range bytes (i * stride) (i * stride + descriptor_length)

-- Descriptor i.
abbrev pub descriptor : List ℕ → ℕ → ℕ → MemoryDescriptor
descriptor bytes stride i = descriptor_in (descriptor_bytes bytes stride i)

-- Each number fits its bytes.
pub record Fits (d : MemoryDescriptor) : Type 0 where
  pub ty : d.ty.0 < 2 ^ 32
  pub padding : d.padding < 2 ^ 32
  pub phys_start : d.phys_start < 2 ^ 64
  pub virt_start : d.virt_start < 2 ^ 64
  pub page_count : d.page_count < 2 ^ 64
  pub att : d.att.0 < 2 ^ 64

-- The bytes, with the forty of descriptor i replaced by those of d.
abbrev pub with_descriptor : List ℕ → ℕ → ℕ → MemoryDescriptor → List ℕ
with_descriptor bytes stride i d =
    take (i * stride) bytes ++ (encoding d ++ drop (i * stride + descriptor_length) bytes)
