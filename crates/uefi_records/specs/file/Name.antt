-- Names that end records (UEFI 2.10, 13.5 "EFI_FILE_PROTOCOL.GetInfo()"; 2.3.1 "Data Types", CHAR16).
use Rattle.std.specs.Prelude.{ℕ, ◌≡◌, ◌≢◌, ◌+◌, ◌-◌, ◌*◌, ◌/◌, ◌<◌, ◌==◌, Option, List, length, drop, slice_index}
use Rattle.std.specs.List.{position_from}
use Rattle.uefi_base.specs.Unaligned.{AreUnits, units_of}

-- A name: units of which the last, and no other, is zero, the NUL.
pub record IsName (units : List ℕ) : Type 0 where
  pub not_empty : 0 < length units
  pub nul : slice_index units (length units - 1) ≡ 0
  pub others : (k : ℕ) → k < length units - 1 → slice_index units k ≢ 0

-- A name whose numbers fit units of 16 bits.
pub record FitName (units : List ℕ) : Type 0 where
  pub is_name : IsName units
  pub are_units : AreUnits units

-- The length of a unit, in bytes.
abbrev pub unit_length : ℕ
unit_length = 2

-- The units of the bytes from the offset on.
abbrev pub units_from : ℕ → List ℕ → List ℕ
units_from offset bytes = units_of (drop offset bytes)

-- The index of the first unit that is zero, if there is one.
abbrev pub first_zero : List ℕ → Option ℕ
first_zero units = position_from (λ unit. unit == 0) 0 units

-- The offset after a name of this many units, the NUL too: where the record's last field ends.
abbrev pub record_end : ℕ → ℕ → ℕ
record_end offset units = offset + unit_length * units

-- The number rounded up to a multiple of the alignment.
abbrev pub round_up : ℕ → ℕ → ℕ
round_up n alignment = (n + (alignment - 1)) / alignment * alignment

-- The size of a record: its end, rounded up to a multiple of the record's alignment.
abbrev pub record_size : ℕ → ℕ → ℕ → ℕ
record_size offset alignment units = round_up (record_end offset units) alignment
