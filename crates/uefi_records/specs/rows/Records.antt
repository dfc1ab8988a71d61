-- Worked rows of the definitions: the encodings, faults and sizes of some times and records, and the numbers of flags.
use Rattle.std.specs.Prelude.{◌≡◌, ℕ, List, take, pos, [], ◌∷◌, ◌++◌, replicate, Some, None, true, false, codes, neg_ℤ}
use Rattle.uefi_records.specs.declared.time.error.TimeError.{TimeError}
use Rattle.uefi_records.specs.declared.flags.daylight.TheConstants.Daylight.{ADJUST_DAYLIGHT, IN_DAYLIGHT}
use Rattle.uefi_records.specs.declared.flags.file_attribute.TheConstants.FileAttribute.{READ_ONLY, HIDDEN, SYSTEM}
use Rattle.uefi_records.specs.declared.flags.file_attribute.TheConstants.FileAttribute.{DIRECTORY, ARCHIVE, VALID_ATTR}
use Rattle.uefi_records.specs.time.Fields.{TimeFields, time_bytes, zero_time, stated_zone, unspecified_zone}
use Rattle.uefi_records.specs.time.Faults.{reading_faults, no_fault, daylight_alone, is_zone_outside}
use Rattle.uefi_base.specs.Flags.{has_bits}
use Rattle.uefi_records.specs.flags.Named.{named_daylight, named_attributes}
use Rattle.uefi_records.specs.time.Texts.{time_error_text}
use Rattle.uefi_base.specs.GuidText.{guid_text}
use Rattle.uefi_records.specs.file.Verdict.{accepted, too_small, without_name}
use Rattle.uefi_records.specs.file.FileInfo.{FileFields, file_info_bytes, file_info_size, file_info_verdict}
use Rattle.uefi_records.specs.file.Identity.{file_info_guid, file_system_info_guid, volume_label_guid}
use Rattle.uefi_records.specs.file.FileSystemInfo.{FileSystemFields, file_system_info_bytes, file_system_info_size}
use Rattle.uefi_records.specs.file.FileSystemInfo.{volume_label_size, volume_label_verdict}

-- The thirty-first of February 2024, local time: every month has 31 days.
abbrev pub last_of_february : TimeFields
last_of_february = record zero_time { year = 2024; month = 2; day = 31; zone = unspecified_zone }

pub record LocalTime : Type 0 where
  pub bytes : time_bytes last_of_february ≡ 0xe8 ∷ 0x07 ∷ 2 ∷ 0x1f ∷ 0 ∷ 0 ∷ 0 ∷ 0 ∷ 0 ∷ 0 ∷ 0 ∷ 0 ∷ 0xff ∷ 0x07 ∷ 0 ∷ 0 ∷ []
  pub accepted : reading_faults last_of_february ≡ no_fault
  pub zone : stated_zone last_of_february.zone ≡ None

-- Zeros alone: year, month and day are outside their ranges, and nothing else.
abbrev pub year_month_and_day : TimeError
year_month_and_day = record no_fault { year = true; month = true; day = true }

pub record ZeroTime : Type 0 where
  pub bytes : time_bytes zero_time ≡ replicate 16 0
  pub faults : reading_faults zero_time ≡ year_month_and_day
  pub lines :
      time_error_text year_month_and_day
      ≡ codes "year not within `1900..=9999`" ++ 10 ∷ codes "month not within `1..=12"
      ++ 10 ∷ codes "day not within `1..=31`" ++ 10 ∷ []

-- An unknown bit of daylight is reported alone, whatever else is wrong.
abbrev pub unknown_daylight : TimeFields
unknown_daylight = record zero_time { daylight = 4 }

pub record UnknownDaylight : Type 0 where
  pub bytes : time_bytes unknown_daylight ≡ replicate 14 0 ++ 4 ∷ 0 ∷ []
  pub faults : reading_faults unknown_daylight ≡ daylight_alone

-- A zone is at most 1440 minutes from UTC to either side, or 2047.
pub record Zones : Type 0 where
  pub east : is_zone_outside (pos 1440) ≡ false
  pub too_far_east : is_zone_outside (pos 1441) ≡ true
  pub west : is_zone_outside (neg_ℤ (pos 1440)) ≡ false
  pub too_far_west : is_zone_outside (neg_ℤ (pos 1441)) ≡ true
  pub unspecified : is_zone_outside (pos 2047) ≡ false
  pub stated : stated_zone (neg_ℤ (pos 90)) ≡ Some (neg_ℤ (pos 90))
  pub two_bytes : time_bytes (record zero_time { zone = neg_ℤ (pos 90) }) ≡ replicate 12 0 ++ 0xa6 ∷ 0xff ∷ 0 ∷ 0 ∷ []

-- The flags' numbers, and sets with and without a bit that has no name.
pub record FlagNumbers : Type 0 where
  pub daylight : (ADJUST_DAYLIGHT.0 ≡ 1) × (IN_DAYLIGHT.0 ≡ 2)
  pub attributes : (READ_ONLY.0 ≡ 1) × (HIDDEN.0 ≡ 2) × (SYSTEM.0 ≡ 4) × (DIRECTORY.0 ≡ 0x10) × (ARCHIVE.0 ≡ 0x20)
      × (VALID_ATTR.0 ≡ 0x37)
  pub named : (has_bits named_daylight 3 ≡ true) × (has_bits named_attributes 0x37 ≡ true)
  pub unnamed : (has_bits named_daylight 4 ≡ false) × (has_bits named_attributes 8 ≡ false)

-- The name `ab`, and the file information record of that name whose other fields are zero.
abbrev pub ab : List ℕ
ab = 0x61 ∷ 0x62 ∷ 0 ∷ []

abbrev pub zero_file : FileFields
zero_file = record {
  file_size = 0;
  physical_size = 0;
  create_time = zero_time;
  last_access_time = zero_time;
  modification_time = zero_time;
  attribute = 0;
}

abbrev pub ab_file : List ℕ
ab_file = file_info_bytes zero_file ab

pub record FileOfAb : Type 0 where
  pub bytes : ab_file ≡ 88 ∷ (replicate 79 0 ++ (0x61 ∷ 0 ∷ 0x62 ∷ 0 ∷ 0 ∷ 0 ∷ []))
  pub whole : file_info_verdict ab_file 88 ≡ accepted ab
  pub short_buffer : file_info_verdict ab_file 86 ≡ too_small 88
  pub without_its_nul : file_info_verdict (take 85 ab_file) 88 ≡ without_name
  pub nothing : file_info_verdict [] 88 ≡ without_name

-- The size of a record of a name of nine characters, and the GUID of all such records.
pub record FileInfoRows : Type 0 where
  pub size : file_info_size 10 ≡ 104
  pub identity : guid_text file_info_guid.0 ≡ codes "09576e92-6d3f-11d2-8e39-00a0c969723b"

-- A file system that can be read and written, of the label `ab`, with the unused bytes 0xee.
abbrev pub ab_file_system : FileSystemFields
ab_file_system = record { read_only = false; volume_size = 1; free_space = 2; block_size = 3 }

pub record FileSystemOfAb : Type 0 where
  pub bytes :
      file_system_info_bytes ab_file_system (replicate 7 0xee) ab
      ≡ 48 ∷ 0 ∷ 0 ∷ 0 ∷ 0 ∷ 0 ∷ 0 ∷ 0 ∷ 0 ∷
      (replicate 7 0xee ++
      (1 ∷ 0 ∷ 0 ∷ 0 ∷ 0 ∷ 0 ∷ 0 ∷ 0 ∷ 2 ∷ 0 ∷ 0 ∷ 0 ∷ 0 ∷ 0 ∷ 0 ∷ 0 ∷ 3 ∷ 0 ∷ 0 ∷ 0 ∷ 0x61 ∷ 0 ∷ 0x62 ∷ 0 ∷ 0 ∷ 0 ∷ []))

-- Sizes of records of a label of ten characters, and of a label of two.
pub record RecordSizes : Type 0 where
  pub file_system_info : file_system_info_size 11 ≡ 64
  pub volume_label : volume_label_size 3 ≡ 6

-- A label in four bytes, and in three, where its NUL is not a whole unit.
pub record Labels : Type 0 where
  pub whole : volume_label_verdict (0x61 ∷ 0 ∷ 0 ∷ 0 ∷ []) 4 ≡ accepted (0x61 ∷ 0 ∷ [])
  pub cut : volume_label_verdict (0x61 ∷ 0 ∷ 0 ∷ []) 4 ≡ without_name

pub record Identities : Type 0 where
  pub file_system_info : guid_text file_system_info_guid.0 ≡ codes "09576e93-6d3f-11d2-8e39-00a0c969723b"
  pub volume_label : guid_text volume_label_guid.0 ≡ codes "db47d7d3-fe81-11d3-9a35-0090273fc14d"

abbrev pub RowsHold : Type 0
RowsHold =
    LocalTime × ZeroTime × UnknownDaylight × Zones × FlagNumbers
    × FileOfAb × FileInfoRows
    × FileSystemOfAb × RecordSizes × Labels × Identities
