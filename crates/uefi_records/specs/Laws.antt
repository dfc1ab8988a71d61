-- Laws of times and of records.
use Rattle.std.specs.Prelude.{◌≡◌, ◌↔◌, ℕ, ◌≤◌, List, ◌++◌, length, ◌^◌, ◌<◌, take}
use Rattle.uefi_base.specs.LittleEndian.{AreBytes}
use Rattle.uefi_records.specs.declared.file.file_info.FileInfo.{FileInfo}
use Rattle.uefi_records.specs.time.Fields.{TimeFields, Fits, StandsIn, time_bytes, time_in, time_length}
use Rattle.uefi_records.specs.file.Views.{stated_size, file_fields_of, file_name_of, file_info_key}
use Rattle.uefi_records.specs.file.Name.{FitName, record_end}
use Rattle.uefi_records.specs.file.Verdict.{accepted, verdict}
use Rattle.uefi_records.specs.file.FileInfo.{FileFields, FitFile, file_fields, file_info_bytes, file_info_size}
use Rattle.uefi_records.specs.file.FileInfo.{file_info_verdict, file_name_offset, size_in}
use Rattle.uefi_records.specs.file.FileSystemInfo.{FileSystemFields, FitFileSystem, file_system_fields}
use Rattle.uefi_records.specs.file.FileSystemInfo.{file_system_info_bytes, file_system_info_size}
use Rattle.uefi_records.specs.file.FileSystemInfo.{file_system_info_verdict, label_offset, lone_label_offset}
use Rattle.uefi_records.specs.file.FileSystemInfo.{volume_label_bytes, volume_label_size, volume_label_verdict}

-- At most one time is in bytes.
abbrev pub OneTime : Type 0
OneTime = (one other : TimeFields) (bytes : List ℕ) → StandsIn one bytes → StandsIn other bytes → one ≡ other

-- Times and their bytes determine each other: a time reads back from its bytes, and sixteen bytes are those of the
-- time that is read from them.
pub record TimesReadBack : Type 0 where
  pub written : (time : TimeFields) (rest : List ℕ) → Fits time → time_in (time_bytes time ++ rest) ≡ time
  pub read : (bytes : List ℕ) → AreBytes bytes → time_length ≤ length bytes → StandsIn (time_in bytes) bytes

-- File information records are equal exactly if their accessors return the same: the stated size, the fields and
-- the name.
pub record EqualFiles : Type 0 where
  pub keys : (one other : FileInfo) → (file_info_key one ≡ file_info_key other)
      ↔ ((stated_size one ≡ stated_size other) × (file_fields_of one ≡ file_fields_of other)
      × (file_name_of one ≡ file_name_of other))

-- A record that was written reads back: for every number of written bytes that covers its name, in every buffer
-- that it fits, whatever the buffer holds after it.
abbrev pub FileInfoReadsBack : Type 0
FileInfoReadsBack = (fields : FileFields) (name rest : List ℕ) (written : ℕ) → FitFile fields → FitName name
    → file_info_size (length name) < 2 ^ 64
    → let buffer = file_info_bytes fields name ++ rest in
    record_end file_name_offset (length name) ≤ written → file_info_size (length name) ≤ length buffer
    → (file_info_verdict (take written buffer) (length buffer) ≡ accepted name)
    × (size_in buffer ≡ file_info_size (length name)) × (file_fields buffer ≡ fields)

abbrev pub FileSystemInfoReadsBack : Type 0
FileSystemInfoReadsBack = (fields : FileSystemFields) (unused label rest : List ℕ) (written : ℕ)
    → length unused ≡ 7 → FitFileSystem fields → FitName label
    → file_system_info_size (length label) < 2 ^ 64
    → let buffer = file_system_info_bytes fields unused label ++ rest in
    record_end label_offset (length label) ≤ written → file_system_info_size (length label) ≤ length buffer
    → (file_system_info_verdict (take written buffer) (length buffer) ≡ accepted label)
    × (size_in buffer ≡ file_system_info_size (length label)) × (file_system_fields buffer ≡ fields)

abbrev pub VolumeLabelReadsBack : Type 0
VolumeLabelReadsBack = (label rest : List ℕ) (written : ℕ) → FitName label
    → let buffer = volume_label_bytes label ++ rest in
    record_end lone_label_offset (length label) ≤ written → volume_label_size (length label) ≤ length buffer
    → volume_label_verdict (take written buffer) (length buffer) ≡ accepted label

pub record ReadsBack : Type 0 where
  pub file_info : FileInfoReadsBack
  pub file_system_info : FileSystemInfoReadsBack
  pub volume_label : VolumeLabelReadsBack

-- Only written bytes decide: two buffers of one length that agree on the written bytes get one verdict, whatever
-- the kind of the record, and so one name; and if a record is accepted, they have one size and the same fields.
pub record WrittenAlone : Type 0 where
  pub verdicts : (offset alignment written : ℕ) (one other : List ℕ) → length one ≡ length other
      → take written one ≡ take written other
      → verdict offset alignment (take written one) (length one)
      ≡ verdict offset alignment (take written other) (length other)
  pub file_info : (written : ℕ) (one other name : List ℕ) → take written one ≡ take written other
      → file_info_verdict (take written one) (length one) ≡ accepted name
      → (size_in one ≡ size_in other) × (file_fields one ≡ file_fields other)
  pub file_system_info : (written : ℕ) (one other label : List ℕ) → take written one ≡ take written other
      → file_system_info_verdict (take written one) (length one) ≡ accepted label
      → (size_in one ≡ size_in other) × (file_system_fields one ≡ file_system_fields other)
