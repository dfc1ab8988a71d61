-- What sets of flags stand for.
use Rattle.std.specs.Prelude.{ℕ}
use Rattle.uefi_records.specs.declared.flags.daylight.Daylight.{Daylight}
use Rattle.uefi_records.specs.declared.flags.file_attribute.FileAttribute.{FileAttribute}

-- The bits of a set, as a number.
abbrev pub daylight_bits : Daylight → ℕ
daylight_bits daylight = daylight.0

abbrev pub attribute_bits : FileAttribute → ℕ
attribute_bits attribute = attribute.0
