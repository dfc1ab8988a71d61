-- What contracts see of texts, slices of units, their iterator and errors.
use Rattle.uefi_base.specs.declared.status.Status.{Status}
use Rattle.uefi_base.specs.declared.status.Error.{Error}
use Rattle.std.specs.Prelude.{ℕ, List}
use Rattle.uefi_base.specs.declared.cstr16.CStr16.{CStr16}
use Rattle.uefi_base.specs.declared.cstring16.CString16.{CString16}
use Rattle.uefi_base.specs.declared.unaligned.UnalignedSlice.{UnalignedSlice}
use Rattle.uefi_base.specs.declared.unaligned.UnalignedSliceIter.{UnalignedSliceIter}
use Rattle.uefi_base.specs.declared.chars_lossy.CharsLossy.{CharsLossy}
use Rattle.uefi_base.specs.Unaligned.{units_of}
use Rattle.uefi_base.specs.Utf16.{lossy_characters}

-- The status and the data of an error.
abbrev pub error_status : {D : Type 0} → Error D → Status
error_status error = error.status

abbrev pub error_data : {D : Type 0} → Error D → D
error_data error = error.«data»

-- The units of the text, including the NUL.
abbrev pub text_units : CStr16 → List ℕ
text_units text = text.units.now

-- The units of the owned text, including the NUL.
abbrev pub owned_units : {A : Type 0} → CString16 A → List ℕ
owned_units text = text.units.items

-- The units of the slice.
abbrev pub slice_units : UnalignedSlice → List ℕ
slice_units slice = units_of slice.bytes.now

-- The units that the iterator hasn't returned yet.
abbrev pub units_left : UnalignedSliceIter → List ℕ
units_left iter = units_of iter.rest.now

-- The characters that the iterator hasn't returned yet.
abbrev pub chars_left : CharsLossy → List ℕ
chars_left iter = lossy_characters (units_left iter.units)
