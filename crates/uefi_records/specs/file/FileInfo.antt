-- File information records (UEFI 2.10, 13.5 "EFI_FILE_PROTOCOL.GetInfo()", EFI_FILE_INFO).
use Rattle.std.specs.Prelude.{ℕ, ◌^◌, ◌<◌, List, ◌++◌, length}
use Rattle.uefi_base.specs.LittleEndian.{u64_at, u64_bytes}
use Rattle.uefi_base.specs.Unaligned.{unit_bytes}
use Rattle.uefi_records.specs.time.Fields.{TimeFields, Fits, time_bytes, time_at}
use Rattle.uefi_records.specs.file.Name.{record_size}
use Rattle.uefi_records.specs.file.Verdict.{Verdict, verdict}

-- The fields of the record, but for its own size and its name.
pub record FileFields : Type 0 where
  pub file_size : ℕ
  pub physical_size : ℕ
  pub create_time : TimeFields
  pub last_access_time : TimeFields
  pub modification_time : TimeFields
  pub attribute : ℕ

-- Each number fits its bytes.
pub record FitFile (fields : FileFields) : Type 0 where
  pub file_size : fields.file_size < 2 ^ 64
  pub physical_size : fields.physical_size < 2 ^ 64
  pub create_time : Fits fields.create_time
  pub last_access_time : Fits fields.last_access_time
  pub modification_time : Fits fields.modification_time
  pub attribute : fields.attribute < 2 ^ 64

-- The offset of the name.
abbrev pub file_name_offset : ℕ
file_name_offset = 80

-- The size of the record is a multiple of this.
abbrev pub file_info_alignment : ℕ
file_info_alignment = 8

-- The size that the record states, and the other fields, each at its offset.
abbrev pub size_in : List ℕ → ℕ
size_in bytes = u64_at bytes 0

abbrev pub file_fields : List ℕ → FileFields
file_fields bytes = record {
  file_size = u64_at bytes 8;
  physical_size = u64_at bytes 16;
  create_time = time_at bytes 24;
  last_access_time = time_at bytes 40;
  modification_time = time_at bytes 56;
  attribute = u64_at bytes 72;
}

-- The size of the record of a name of this many units, and the verdict on bytes that were written.
abbrev pub file_info_size : ℕ → ℕ
file_info_size units = record_size file_name_offset file_info_alignment units

abbrev pub file_info_verdict : List ℕ → ℕ → Verdict
file_info_verdict written room = verdict file_name_offset file_info_alignment written room

-- The bytes before the name, and those of the whole record without its rounding bytes.
unfoldable pub file_header : ℕ → FileFields → List ℕ
file_header size fields =
    u64_bytes size
    ++ u64_bytes fields.file_size
    ++ u64_bytes fields.physical_size
    ++ time_bytes fields.create_time
    ++ time_bytes fields.last_access_time
    ++ time_bytes fields.modification_time
    ++ u64_bytes fields.attribute

abbrev pub file_info_bytes : FileFields → List ℕ → List ℕ
file_info_bytes fields name = file_header (file_info_size (length name)) fields ++ unit_bytes name
