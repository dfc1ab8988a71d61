-- Which error units or characters that aren't UCS-2 text have: too many of them first, then the lowest index that
-- offends.
use Rattle.std.specs.Prelude.{ℕ, ◌≡◌, ◌+◌, ◌<◌, ◌≤◌, List, length, slice_index}
use Rattle.uefi_base.specs.declared.text_error.FromSliceWithNulError.{FromSliceWithNulError}
use Rattle.uefi_base.specs.declared.text_error.FromSliceWithNulError.TheVariants.{TooLong, InvalidChar, InteriorNul, NotNulTerminated}
use Rattle.uefi_base.specs.declared.text_error.UnalignedCStr16Error.{UnalignedCStr16Error}
use Rattle.uefi_base.specs.declared.text_error.UnalignedCStr16Error.TheVariants.{TooLong as UnalignedTooLong, InvalidChar as UnalignedInvalidChar, InteriorNul as UnalignedInteriorNul, NotNulTerminated as UnalignedNotNulTerminated}
use Rattle.uefi_base.specs.Ucs2.{max_units, IsSurrogate, AreCharactersBefore, HaveUnitsBefore}

-- There aren't too many units, the index is one of them, and all units before it are characters.
pub record NoneOffendsBefore (units : List ℕ) (index : ℕ) : Type 0 where
  pub short : length units ≤ max_units
  pub within : index < length units
  pub before : AreCharactersBefore units index

-- The error that units have: too many of them; else a surrogate, or a zero that isn't last, at the lowest such
-- index; else no zero.
abbrev pub HasFault : List ℕ → FromSliceWithNulError → Type 0
HasFault units TooLong = max_units < length units
HasFault units (InvalidChar index) = NoneOffendsBefore units index × IsSurrogate (slice_index units index)
HasFault units (InteriorNul index) = NoneOffendsBefore units index × (slice_index units index ≡ 0)
    × (index + 1 < length units)
HasFault units NotNulTerminated = (length units ≤ max_units) × AreCharactersBefore units (length units)

-- The same error, of units in bytes.
abbrev pub unaligned_error : FromSliceWithNulError → UnalignedCStr16Error
unaligned_error TooLong = UnalignedTooLong
unaligned_error (InvalidChar index) = UnalignedInvalidChar index
unaligned_error (InteriorNul index) = UnalignedInteriorNul index
unaligned_error NotNulTerminated = UnalignedNotNulTerminated

-- There are too many characters: with the NUL, they would need more than max_units units.
abbrev pub AreTooMany : List ℕ → Type 0
AreTooMany characters = max_units ≤ length characters

-- There aren't too many characters, and the first that has no unit of its own has the property.
abbrev pub OffendsFirst : List ℕ → (ℕ → Type 0) → Type 0
OffendsFirst characters Has =
    (length characters < max_units) × ((index : ℕ) × (index < length characters) × HaveUnitsBefore characters index
    × Has (slice_index characters index))
