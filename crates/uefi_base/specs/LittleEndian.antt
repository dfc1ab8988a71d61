-- Numbers of two, four and eight bytes, little-endian (UEFI 2.10, 1.8.1 "Data Structure Descriptions").
use Rattle.std.specs.Prelude.{ℕ, ◌+◌, ◌<◌, List, slice_index, slice_range}
use Rattle.std.specs.Int.{w16, w32, w64, from_le_bytes, to_le_bytes}

-- The number in the two, four or eight bytes at the offset.
abbrev pub u16_at : List ℕ → ℕ → ℕ
u16_at bytes offset = from_le_bytes w16 (slice_range bytes offset (offset + 2))

abbrev pub u32_at : List ℕ → ℕ → ℕ
u32_at bytes offset = from_le_bytes w32 (slice_range bytes offset (offset + 4))

abbrev pub u64_at : List ℕ → ℕ → ℕ
u64_at bytes offset = from_le_bytes w64 (slice_range bytes offset (offset + 8))

-- The two, four or eight bytes of a number.
abbrev pub u16_bytes : ℕ → List ℕ
u16_bytes number = to_le_bytes w16 number

abbrev pub u32_bytes : ℕ → List ℕ
u32_bytes number = to_le_bytes w32 number

abbrev pub u64_bytes : ℕ → List ℕ
u64_bytes number = to_le_bytes w64 number

-- Each number is below 256.
abbrev pub AreBytes : List ℕ → Type 0
AreBytes numbers = (k : ℕ) → slice_index numbers k < 256
