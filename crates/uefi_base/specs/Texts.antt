-- What statuses and errors display as.
use Rattle.std.specs.Prelude.{ℕ, List, ◌++◌, codes, decimal}
use Rattle.uefi_base.specs.declared.status.Status.{Status}
use Rattle.uefi_base.specs.declared.status.Status.TheVariants.{INVALID_PARAMETER, BAD_BUFFER_SIZE, BUFFER_TOO_SMALL}
use Rattle.uefi_base.specs.declared.status.Status.TheVariants.{OUT_OF_RESOURCES}
use Rattle.uefi_base.specs.declared.status.Error.{Error}
use Rattle.uefi_base.specs.Views.{error_status}
use Rattle.uefi_base.specs.declared.text_error.FromSliceWithNulError.{FromSliceWithNulError}
use Rattle.uefi_base.specs.declared.text_error.FromSliceWithNulError.TheVariants.{TooLong, InvalidChar, InteriorNul}
use Rattle.uefi_base.specs.declared.text_error.FromSliceWithNulError.TheVariants.{NotNulTerminated}
use Rattle.uefi_base.specs.declared.text_error.FromStrError.{FromStrError}
use Rattle.uefi_base.specs.declared.text_error.FromStrError.TheVariants.{TooLong as StrTooLong}
use Rattle.uefi_base.specs.declared.text_error.FromStrError.TheVariants.{InvalidChar as StrInvalidChar}
use Rattle.uefi_base.specs.declared.text_error.FromStrError.TheVariants.{InteriorNul as StrInteriorNul}
use Rattle.uefi_base.specs.declared.text_error.FromStrError.TheVariants.{Memory as StrMemory}
use Rattle.uefi_base.specs.declared.text_error.UnalignedCStr16Error.{UnalignedCStr16Error}
use Rattle.uefi_base.specs.declared.text_error.UnalignedCStr16Error.TheVariants.{TooLong as UnalignedTooLong}
use Rattle.uefi_base.specs.declared.text_error.UnalignedCStr16Error.TheVariants.{InvalidChar as UnalignedInvalidChar}
use Rattle.uefi_base.specs.declared.text_error.UnalignedCStr16Error.TheVariants.{InteriorNul as UnalignedInteriorNul}
use Rattle.uefi_base.specs.declared.text_error.UnalignedCStr16Error.TheVariants.{NotNulTerminated as UnalignedNotNulTerminated}
use Rattle.uefi_base.specs.declared.text_error.UnalignedCStr16Error.TheVariants.{Memory as UnalignedMemory}
use Rattle.uefi_base.specs.declared.text_error.GuidFromStrError.{GuidFromStrError}
use Rattle.uefi_base.specs.declared.text_error.GuidFromStrError.TheVariants.{InvalidLength, InvalidSeparator, InvalidHex}

-- A status: its name in the standard.
abbrev pub status_name : Status → List ℕ
status_name INVALID_PARAMETER = codes "INVALID_PARAMETER"
status_name BAD_BUFFER_SIZE = codes "BAD_BUFFER_SIZE"
status_name BUFFER_TOO_SMALL = codes "BUFFER_TOO_SMALL"
status_name OUT_OF_RESOURCES = codes "OUT_OF_RESOURCES"

-- An error: its status, whatever its data is.
abbrev pub error_text : {D : Type 0} → Error D → List ℕ
error_text error = codes "UEFI error " ++ status_name (error_status error)

-- The errors of units and of characters.
abbrev pub slice_error_text : FromSliceWithNulError → List ℕ
slice_error_text TooLong = codes "more than 2^31 units"
slice_error_text (InvalidChar index) = codes "a surrogate at index " ++ decimal index
slice_error_text (InteriorNul index) = codes "a NUL at index " ++ decimal index ++ codes ", before the end"
slice_error_text NotNulTerminated = codes "no NUL at the end"

abbrev pub str_error_text : FromStrError → List ℕ
str_error_text StrTooLong = codes "more than 2^31 - 1 characters"
str_error_text StrInvalidChar = codes "a character above U+FFFF"
str_error_text StrInteriorNul = codes "the character U+0000"
str_error_text StrMemory = codes "out of memory"

abbrev pub unaligned_error_text : UnalignedCStr16Error → List ℕ
unaligned_error_text UnalignedTooLong = slice_error_text TooLong
unaligned_error_text (UnalignedInvalidChar index) = slice_error_text (InvalidChar index)
unaligned_error_text (UnalignedInteriorNul index) = slice_error_text (InteriorNul index)
unaligned_error_text UnalignedNotNulTerminated = slice_error_text NotNulTerminated
unaligned_error_text UnalignedMemory = codes "out of memory"

-- The errors of the text of a GUID.
abbrev pub guid_error_text : GuidFromStrError → List ℕ
guid_error_text InvalidLength = codes "not 36 bytes"
guid_error_text (InvalidSeparator index) = codes "no dash at index " ++ decimal index
guid_error_text (InvalidHex index) = codes "no hex digit at index " ++ decimal index
