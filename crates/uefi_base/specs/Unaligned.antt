-- Units of 16 bits in bytes, little-endian (UEFI 2.10, 2.3.1 "Data Types", CHAR16).
use Rattle.std.specs.Prelude.{ℕ, ◌+◌, ◌*◌, ◌^◌, ◌<◌, List, [], ◌∷◌, slice_index}
use Rattle.std.specs.List.{flat_map}
use Rattle.uefi_base.specs.LittleEndian.{u16_bytes}

-- The units in bytes; a last byte that is left over belongs to none.
abbrev pub units_of : List ℕ → List ℕ
units_of [] = []
units_of (low ∷ []) = []
units_of (low ∷ high ∷ rest) = (low + 256 * high) ∷ units_of rest

-- The bytes of units.
abbrev pub unit_bytes : List ℕ → List ℕ
unit_bytes units = flat_map u16_bytes units

-- Each number fits a unit.
abbrev pub AreUnits : List ℕ → Type 0
AreUnits numbers = (k : ℕ) → slice_index numbers k < 2 ^ 16
