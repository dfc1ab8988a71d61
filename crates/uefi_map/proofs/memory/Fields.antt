-- A descriptor and its forty bytes.
use Rattle.std.proofs.Common.{◌≡◌, length, refl}
use Rattle.std.proofs.lemmas.Nat.{from_le_bytes-to_le_bytes_4, from_le_bytes-to_le_bytes_8}
use Rattle.uefi_map.specs.declared.memory.descriptor.MemoryDescriptor.{MemoryDescriptor}
use Rattle.uefi_map.specs.memory.Descriptor.{descriptor_length, descriptor_in, encoding, Fits}

-- What is read of a descriptor's bytes is the descriptor.
pub descriptor_in-encoding : (d : MemoryDescriptor) → Fits d → descriptor_in (encoding d) ≡ d
unfolding descriptor_in encoding
descriptor_in-encoding d fits = λ i. record {
  ty = record { 0 = from_le_bytes-to_le_bytes_4 d.ty.0 fits.ty i };
  padding = from_le_bytes-to_le_bytes_4 d.padding fits.padding i;
  phys_start = from_le_bytes-to_le_bytes_8 d.phys_start fits.phys_start i;
  virt_start = from_le_bytes-to_le_bytes_8 d.virt_start fits.virt_start i;
  page_count = from_le_bytes-to_le_bytes_8 d.page_count fits.page_count i;
  att = record { 0 = from_le_bytes-to_le_bytes_8 d.att.0 fits.att i };
}

pub length-encoding : (d : MemoryDescriptor) → length (encoding d) ≡ descriptor_length
unfolding encoding
length-encoding d = refl
