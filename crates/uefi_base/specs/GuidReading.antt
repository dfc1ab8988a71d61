-- What a text is read as: the GUID whose text it is, or the error that it has.
use Rattle.std.specs.Prelude.{ℕ, ◌≡◌, ◌≢◌, ◌<◌, ◌↔◌, false, List, length, slice_index, Result, IsOk, IfOk, IsTrue}
use Rattle.std.specs.Result.{IsErrOf}
use Rattle.uefi_base.specs.declared.guid.Guid.{Guid}
use Rattle.uefi_base.specs.declared.text_error.GuidFromStrError.{GuidFromStrError}
use Rattle.uefi_base.specs.declared.text_error.GuidFromStrError.TheVariants.{InvalidLength, InvalidSeparator, InvalidHex}
use Rattle.uefi_base.specs.GuidText.{guid_text_length, is_separator, fits_guid, FitsGuidBefore, IsGuidText, guid_bytes}

-- The text has the length of a GUID's, and its first byte that a GUID's text may not have is at the offset.
pub record IsFirstUnfit (text : List ℕ) (offset : ℕ) : Type 0 where
  pub sized : length text ≡ guid_text_length
  pub within : offset < guid_text_length
  pub before : FitsGuidBefore text offset
  pub unfit : fits_guid offset (slice_index text offset) ≡ false

-- The error that a text has: another length; else the first byte that a GUID's text may not have, in the place of
-- a dash or of a hex digit.
abbrev pub HasGuidFault : List ℕ → GuidFromStrError → Type 0
HasGuidFault text InvalidLength = length text ≢ guid_text_length
HasGuidFault text (InvalidSeparator offset) = IsFirstUnfit text offset × IsTrue (is_separator offset)
HasGuidFault text (InvalidHex offset) = IsFirstUnfit text offset × (is_separator offset ≡ false)

-- A GUID is read if and only if the text is a GUID's, and it is this GUID. Each error comes if and only if the text
-- has it.
pub record ReadsGuid (text : List ℕ) (read : Result Guid GuidFromStrError) : Type 0 where
  pub guid : IfOk read (λ guid. guid.0 ≡ guid_bytes text)
  pub accepted : IsOk read ↔ IsGuidText text
  pub refused : (fault : GuidFromStrError) → IsErrOf read fault ↔ HasGuidFault text fault
