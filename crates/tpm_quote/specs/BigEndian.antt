-- Numbers of two, four and eight bytes, big-endian, as in all structures of a TPM, and bytes with their size before
-- them (TPM 2.0 Library, Part 2).
use Rattle.std.specs.Prelude.{ℕ, List, ◌++◌, length}
use Rattle.std.specs.Int.{w16, w32, w64, to_be_bytes}

-- The two, four or eight bytes of a number.
abbrev pub u16_bytes : ℕ → List ℕ
u16_bytes number = to_be_bytes w16 number

abbrev pub u32_bytes : ℕ → List ℕ
u32_bytes number = to_be_bytes w32 number

abbrev pub u64_bytes : ℕ → List ℕ
u64_bytes number = to_be_bytes w64 number

-- A size in two bytes, and that many bytes (TPM2B_NAME, TPM2B_DATA, TPM2B_DIGEST).
unfoldable pub sized_bytes : List ℕ → List ℕ
sized_bytes bytes = u16_bytes (length bytes) ++ bytes
