-- Times (UEFI 2.10, 8.3 "GetTime()", EFI_TIME) of plain numbers.
use Rattle.std.specs.Prelude.{ℕ, ◌≡◌, ◌≢◌, List}
use Rattle.uefi_records.specs.declared.time.error.TimeError.{TimeError}
use Rattle.uefi_records.specs.time.Faults.{reading_faults, no_fault}
use Rattle.uefi_records.specs.time.Fields.{TimeFields, StandsIn, time_given, without_pads}
use Rattle.uefi_c.specs.declared.time.UefiTime.{UefiTime}
use Rattle.uefi_c.specs.declared.time.UefiTimeFaults.{UefiTimeFaults}

-- The fields that were read, with zeros in their padding.
abbrev pub time_seen : UefiTime → TimeFields
time_seen seen = time_given seen.year seen.month seen.day seen.hour seen.minute seen.second seen.nanosecond seen.zone seen.daylight

abbrev pub faults_seen : UefiTimeFaults → TimeError
faults_seen seen = record {
  year = seen.year;
  month = seen.month;
  day = seen.day;
  hour = seen.hour;
  minute = seen.minute;
  second = seen.second;
  nanosecond = seen.nanosecond;
  timezone = seen.zone;
  daylight = seen.daylight;
}

-- The time is in the first sixteen bytes, whatever their padding is, and has no fault.
abbrev pub HasTime : List ℕ → TimeFields → Type 0
HasTime bytes seen = (time : TimeFields) × StandsIn time bytes × (seen ≡ without_pads time) × (reading_faults time ≡ no_fault)

-- The time stands there, and has faults.
abbrev pub HasFaults : List ℕ → TimeFields → Type 0
HasFaults bytes time = StandsIn time bytes × (reading_faults time ≢ no_fault)
