-- Laws of numbers and of units in bytes, and of the texts of GUIDs.
use Rattle.std.specs.Prelude.{ℕ, ◌≡◌, ◌+◌, ◌^◌, ◌<◌, ◌≤◌, List, ◌++◌, length, slice_range, ◌*◌, ◌/◌, ◌%◌, take, drop}
use Rattle.std.specs.Prelude.{slice_index}
use Rattle.std.specs.Prelude.{map}
use Rattle.std.specs.Char.{to_ascii_lowercase}
use Rattle.uefi_base.specs.LittleEndian.{AreBytes, u16_at, u16_bytes, u32_at, u32_bytes, u64_at, u64_bytes}
use Rattle.uefi_base.specs.GuidText.{guid_text, IsGuidText, guid_bytes}
use Rattle.uefi_base.specs.Unaligned.{AreUnits, units_of, unit_bytes}

-- A number reads back from the offset at which its bytes were written, whatever comes before and after them.
pub record WrittenNumbersRead : Type 0 where
  pub u16 : (before after : List ℕ) (n : ℕ) → n < 2 ^ 16 → u16_at (before ++ u16_bytes n ++ after) (length before) ≡ n
  pub u32 : (before after : List ℕ) (n : ℕ) → n < 2 ^ 32 → u32_at (before ++ u32_bytes n ++ after) (length before) ≡ n
  pub u64 : (before after : List ℕ) (n : ℕ) → n < 2 ^ 64 → u64_at (before ++ u64_bytes n ++ after) (length before) ≡ n

-- The bytes of a number that was read are the bytes at its offset.
pub record ReadNumbersWrite : Type 0 where
  pub u16 : (bytes : List ℕ) (offset : ℕ) → AreBytes bytes → offset + 2 ≤ length bytes
      → u16_bytes (u16_at bytes offset) ≡ slice_range bytes offset (offset + 2)
  pub u32 : (bytes : List ℕ) (offset : ℕ) → AreBytes bytes → offset + 4 ≤ length bytes
      → u32_bytes (u32_at bytes offset) ≡ slice_range bytes offset (offset + 4)
  pub u64 : (bytes : List ℕ) (offset : ℕ) → AreBytes bytes → offset + 8 ≤ length bytes
      → u64_bytes (u64_at bytes offset) ≡ slice_range bytes offset (offset + 8)

pub record NumbersReadBack : Type 0 where
  pub written : WrittenNumbersRead
  pub read : ReadNumbersWrite

-- Units and their bytes determine each other; a unit has two bytes, and the units of joined bytes are those of the
-- parts, if the first has an even length.
pub record UnitsReadBack : Type 0 where
  pub written : (units : List ℕ) → AreUnits units → units_of (unit_bytes units) ≡ units
  pub read : (bytes : List ℕ) → AreBytes bytes → length bytes % 2 ≡ 0 → unit_bytes (units_of bytes) ≡ bytes
  pub sized : (units : List ℕ) → length (unit_bytes units) ≡ 2 * length units
  pub joined : (bytes rest : List ℕ) → length bytes % 2 ≡ 0 → units_of (bytes ++ rest) ≡ units_of bytes ++ units_of rest

-- Unit k has its bytes at twice k, and the units before and from k are those of the bytes before and from twice k.
pub record UnitsByPlace : Type 0 where
  pub counted : (bytes : List ℕ) → length (units_of bytes) ≡ length bytes / 2
  pub each : (bytes : List ℕ) (k : ℕ) → k < length (units_of bytes)
      → slice_index (units_of bytes) k ≡ u16_at bytes (2 * k)
  pub front : (bytes : List ℕ) (k : ℕ) → units_of (take (2 * k) bytes) ≡ take k (units_of bytes)
  pub rest : (bytes : List ℕ) (k : ℕ) → units_of (drop (2 * k) bytes) ≡ drop k (units_of bytes)

-- The text of sixteen bytes is that of a GUID, and is read as these bytes. The text of the bytes that a text is read
-- as is that text, with its letters in lower case.
pub record GuidsReadBack : Type 0 where
  pub text : (bytes : List ℕ) → AreBytes bytes → length bytes ≡ 16 → IsGuidText (guid_text bytes)
  pub read : (bytes : List ℕ) → AreBytes bytes → length bytes ≡ 16 → guid_bytes (guid_text bytes) ≡ bytes
  pub written : (text : List ℕ) → IsGuidText text → guid_text (guid_bytes text) ≡ map to_ascii_lowercase text
