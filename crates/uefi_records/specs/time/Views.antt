-- What times stand for.
use Rattle.std.specs.Prelude.{ℕ, List, unwrap_or}
use Rattle.uefi_records.specs.declared.time.Time.{Time}
use Rattle.uefi_records.specs.declared.time.params.TimeParams.{TimeParams}
use Rattle.uefi_records.specs.time.Fields.{TimeFields, time_bytes, time_given, unspecified_zone}
use Rattle.uefi_records.specs.flags.Views.{daylight_bits}

-- The fields of a time.
abbrev pub time_of : Time → TimeFields
time_of time =
    record (time_given time.year time.month time.day time.hour time.minute time.second time.nanosecond time.zone
    (daylight_bits time.daylight)) { first_pad = time.first_pad; last_pad = time.last_pad }

-- The sixteen bytes of a time.
abbrev pub bytes_of_time : Time → List ℕ
bytes_of_time time = time_bytes (time_of time)

-- The fields that are asked for: no zone is the unspecified one, and the pads are zero.
abbrev pub fields_of : TimeParams → TimeFields
fields_of params = time_given params.year params.month params.day params.hour params.minute params.second
    params.nanosecond (unwrap_or params.time_zone unspecified_zone) (daylight_bits params.daylight)
