-- Times as firmware keeps them, and their bytes (UEFI 2.10, 8.3 "GetTime()", EFI_TIME).
use Rattle.std.specs.Prelude.{◌≡◌, ℕ, ℤ, pos, ◌+◌, ◌^◌, ◌<◌, List, [], ◌∷◌, ◌++◌, slice_index, slice_range, Option, Some, None, FitsSigned, if◌then◌else◌}
use Rattle.std.specs.Ordering.{int_eq}
use Rattle.std.specs.Int.{w16, cast_signed, cast_unsigned}
use Rattle.uefi_base.specs.LittleEndian.{u16_at, u16_bytes, u32_at, u32_bytes}

-- A time: a date, a time of day, the zone in minutes from UTC, daylight saving, and two bytes of padding.
pub record TimeFields : Type 0 where
  pub year : ℕ
  pub month : ℕ
  pub day : ℕ
  pub hour : ℕ
  pub minute : ℕ
  pub second : ℕ
  pub first_pad : ℕ
  pub nanosecond : ℕ
  pub zone : ℤ
  pub daylight : ℕ
  pub last_pad : ℕ

-- Each number fits its bytes, whether or not it is within its range.
pub record Fits (time : TimeFields) : Type 0 where
  pub year : time.year < 2 ^ 16
  pub month : time.month < 256
  pub day : time.day < 256
  pub hour : time.hour < 256
  pub minute : time.minute < 256
  pub second : time.second < 256
  pub first_pad : time.first_pad < 256
  pub nanosecond : time.nanosecond < 2 ^ 32
  pub zone : FitsSigned w16 time.zone
  pub daylight : time.daylight < 256
  pub last_pad : time.last_pad < 256

-- The sixteen bytes of a time: the fields in this order, little-endian, the zone in two's complement.
unfoldable pub time_bytes : TimeFields → List ℕ
time_bytes time =
    u16_bytes time.year
    ++ (time.month ∷ time.day ∷ time.hour ∷ time.minute ∷ time.second ∷ time.first_pad ∷ [])
    ++ u32_bytes time.nanosecond
    ++ u16_bytes (cast_unsigned w16 time.zone)
    ++ (time.daylight ∷ time.last_pad ∷ [])

abbrev pub time_length : ℕ
time_length = 16

-- The bytes start with the sixteen bytes of the time.
abbrev pub StandsIn : TimeFields → List ℕ → Type 0
StandsIn time bytes = Fits time × ((rest : List ℕ) × (bytes ≡ time_bytes time ++ rest))

-- The time in the first sixteen bytes: each field at its offset.
abbrev pub time_in : List ℕ → TimeFields
time_in bytes = record {
  year = u16_at bytes 0;
  month = slice_index bytes 2;
  day = slice_index bytes 3;
  hour = slice_index bytes 4;
  minute = slice_index bytes 5;
  second = slice_index bytes 6;
  first_pad = slice_index bytes 7;
  nanosecond = u32_at bytes 8;
  zone = cast_signed w16 (u16_at bytes 12);
  daylight = slice_index bytes 14;
  last_pad = slice_index bytes 15;
}

-- The time in the sixteen bytes at the offset.
abbrev pub time_at : List ℕ → ℕ → TimeFields
time_at bytes offset = time_in (slice_range bytes offset (offset + time_length))

-- The zone of local time, EFI_UNSPECIFIED_TIMEZONE.
abbrev pub unspecified_zone : ℤ
unspecified_zone = pos 0x07ff

-- The zone in minutes from UTC, or None for local time.
abbrev pub stated_zone : ℤ → Option ℤ
stated_zone zone = if int_eq zone unspecified_zone then None else Some zone

-- The time with zeros in its padding.
abbrev pub without_pads : TimeFields → TimeFields
without_pads time = record time { first_pad = 0; last_pad = 0 }

-- The time with these fields, and with zeros in its padding.
abbrev pub time_given : ℕ → ℕ → ℕ → ℕ → ℕ → ℕ → ℕ → ℤ → ℕ → TimeFields
time_given year month day hour minute second nanosecond zone daylight = record {
  year = year;
  month = month;
  day = day;
  hour = hour;
  minute = minute;
  second = second;
  first_pad = 0;
  nanosecond = nanosecond;
  zone = zone;
  daylight = daylight;
  last_pad = 0;
}

-- The time whose bytes are all zero.
abbrev pub zero_time : TimeFields
zero_time = time_given 0 0 0 0 0 0 0 (pos 0) 0
