-- Which fields of a time are at fault (UEFI 2.10, 8.3 "GetTime()", EFI_TIME).
use Rattle.std.specs.Prelude.{◌≡◌, ℕ, ℤ, pos, neg_ℤ, Bool, false, true, not, if◌then◌else◌, ◌&&◌, ◌||◌, nat_lt, int_lt}
use Rattle.std.specs.Ordering.{int_eq}
use Rattle.uefi_base.specs.Flags.{has_bits}
use Rattle.uefi_records.specs.declared.time.error.TimeError.{TimeError}
use Rattle.uefi_records.specs.flags.Named.{named_daylight}
use Rattle.uefi_records.specs.time.Fields.{TimeFields, unspecified_zone}

-- Below the lowest or above the highest.
abbrev pub is_outside : ℕ → ℕ → ℕ → Bool
is_outside lowest highest n = nat_lt n lowest || nat_lt highest n

-- More than a day from UTC, to the east or to the west, and not the unspecified zone.
abbrev pub is_zone_outside : ℤ → Bool
is_zone_outside zone = not (int_eq zone unspecified_zone) && (int_lt zone (neg_ℤ (pos 1440)) || int_lt (pos 1440) zone)

-- The fields outside their ranges. Padding has no range, and daylight is never at fault here.
abbrev pub range_faults : TimeFields → TimeError
range_faults time = record {
  year = is_outside 1900 9999 time.year;
  month = is_outside 1 12 time.month;
  day = is_outside 1 31 time.day;
  hour = is_outside 0 23 time.hour;
  minute = is_outside 0 59 time.minute;
  second = is_outside 0 59 time.second;
  nanosecond = is_outside 0 999999999 time.nanosecond;
  timezone = is_zone_outside time.zone;
  daylight = false;
}

abbrev pub no_fault : TimeError
no_fault = record {
  year = false;
  month = false;
  day = false;
  hour = false;
  minute = false;
  second = false;
  nanosecond = false;
  timezone = false;
  daylight = false;
}

-- Each field but daylight is within its range.
abbrev pub IsValid : TimeFields → Type 0
IsValid time = range_faults time ≡ no_fault

abbrev pub daylight_alone : TimeError
daylight_alone = record no_fault { daylight = true }

-- Each bit of daylight has a name.
abbrev pub has_named_daylight : TimeFields → Bool
has_named_daylight time = has_bits named_daylight time.daylight

-- The faults of a time that is read from bytes: daylight alone, if it has a bit without a name; otherwise the
-- fields outside their ranges.
abbrev pub reading_faults : TimeFields → TimeError
reading_faults time = if has_named_daylight time then range_faults time else daylight_alone
