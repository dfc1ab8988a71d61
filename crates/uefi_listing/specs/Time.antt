-- What `time` lists: the time in the first sixteen bytes.
use Rattle.std.specs.Prelude.{ℕ, ◌-◌, List, ◌++◌, length, codes, replicate, if◌then◌else◌, ◌≡◌}
use Rattle.std.specs.Fmt.{decimal, signed_decimal}
use Rattle.std.specs.Ordering.{int_eq}
use Rattle.uefi_records.specs.time.Fields.{TimeFields, unspecified_zone, StandsIn}
use Rattle.uefi_records.specs.declared.time.error.TimeByteConversionError.{TimeByteConversionError}
use Rattle.uefi_records.specs.declared.time.error.TimeByteConversionError.TheVariants.{InvalidFields, InvalidSize}
use Rattle.uefi_records.specs.time.Faults.{reading_faults, no_fault}
use Rattle.uefi_records.specs.time.Reading.{RefusesTime}
use Rattle.uefi_listing.specs.declared.listing.Outcome.{Outcome}
use Rattle.uefi_listing.specs.declared.listing.Outcome.TheVariants.{Listed, Refused}

-- The number in decimal, with zeros before it up to this many digits.
abbrev pub with_zeros : ℕ → ℕ → List ℕ
with_zeros width n = replicate (width - length (decimal n)) 48 ++ decimal n

-- YYYY-MM-DD
unfoldable pub date_text : TimeFields → List ℕ
date_text time = with_zeros 4 time.year ++ codes "-" ++ with_zeros 2 time.month ++ codes "-" ++ with_zeros 2 time.day

-- HH:MM:SS.NNNNNNNNN
unfoldable pub clock_text : TimeFields → List ℕ
clock_text time =
    with_zeros 2 time.hour ++ codes ":" ++ with_zeros 2 time.minute ++ codes ":" ++ with_zeros 2 time.second ++ codes "." ++ with_zeros 9 time.nanosecond

-- The zone in minutes from UTC, or `local` if it is unspecified.
unfoldable pub zone_text : TimeFields → List ℕ
zone_text time = if int_eq time.zone unspecified_zone then codes "local" else signed_decimal time.zone

-- The date, the time of day, the zone, and the bits of daylight in decimal.
unfoldable pub time_line : TimeFields → List ℕ
time_line time = codes "time " ++ date_text time ++ codes " " ++ clock_text time ++ codes " " ++ zone_text time ++ codes " " ++ decimal time.daylight ++ codes "\n"

abbrev pub refused_time_line : TimeByteConversionError → List ℕ
refused_time_line InvalidSize = codes "refused InvalidSize\n"
refused_time_line (InvalidFields faults) = codes "refused InvalidFields\n"

-- The text lists the time in the first sixteen bytes, with which a reader finds no fault.
pub record ListsTime (bytes text : List ℕ) (time : TimeFields) : Type 0 where
  pub stands : StandsIn time bytes
  pub faultless : reading_faults time ≡ no_fault
  pub line : text ≡ time_line time

-- If there is no time without a fault in the bytes, the text says why.
abbrev pub TimeListing : List ℕ → List ℕ → Outcome → Type 0
TimeListing bytes text Listed = (time : TimeFields) × ListsTime bytes text time
TimeListing bytes text Refused = (refusal : TimeByteConversionError) × RefusesTime bytes refusal × (text ≡ refused_time_line refusal)
