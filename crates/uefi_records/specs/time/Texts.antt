-- The texts of the faults of times.
use Rattle.std.specs.Prelude.{ℕ, Bool, List, [], ◌∷◌, ◌++◌, codes, if◌then◌else◌}
use Rattle.uefi_records.specs.declared.time.error.TimeError.{TimeError}
use Rattle.uefi_records.specs.declared.time.error.TimeByteConversionError.{TimeByteConversionError}
use Rattle.uefi_records.specs.declared.time.error.TimeByteConversionError.TheVariants.{InvalidFields, InvalidSize}

-- The text and a newline if the field is at fault, and otherwise nothing.
abbrev pub fault_line : Bool → List ℕ → List ℕ
fault_line at_fault text = if at_fault then text ++ 10 ∷ [] else []

-- A line for each field that is at fault, in the order of the fields. The line of the month has no closing backquote.
abbrev pub time_error_text : TimeError → List ℕ
time_error_text faults =
    fault_line faults.year (codes "year not within `1900..=9999`")
    ++ fault_line faults.month (codes "month not within `1..=12")
    ++ fault_line faults.day (codes "day not within `1..=31`")
    ++ fault_line faults.hour (codes "hour not within `0..=23`")
    ++ fault_line faults.minute (codes "minute not within `0..=59`")
    ++ fault_line faults.second (codes "second not within `0..=59`")
    ++ fault_line faults.nanosecond (codes "nanosecond not within `0..=999_999_999`")
    ++ fault_line faults.timezone (codes "time_zone not `Time::UNSPECIFIED_TIMEZONE` nor within `-1440..=1440`")
    ++ fault_line faults.daylight (codes "unknown bits set for daylight")

abbrev pub conversion_error_text : TimeByteConversionError → List ℕ
conversion_error_text (InvalidFields faults) = time_error_text faults
conversion_error_text InvalidSize = codes "the byte slice is not large enough to hold a Time struct"
