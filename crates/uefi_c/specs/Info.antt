-- Records of files and volumes (UEFI 2.10, 13.5 "EFI_FILE_PROTOCOL.GetInfo()") of plain numbers.
use Rattle.std.specs.Prelude.{ℕ, ◌≡◌}
use Rattle.uefi_records.specs.file.FileInfo.{FileFields}
use Rattle.uefi_records.specs.file.FileSystemInfo.{FileSystemFields}
use Rattle.uefi_records.specs.file.Verdict.{Verdict, without_name, too_small, accepted}
use Rattle.uefi_records.specs.time.Fields.{without_pads}
use Rattle.uefi_c.specs.declared.info.UefiFileInfo.{UefiFileInfo}
use Rattle.uefi_c.specs.declared.info.UefiFileSystemInfo.{UefiFileSystemInfo}
use Rattle.uefi_c.specs.Status.{buffer_too_small, not_nul_terminated, ok}
use Rattle.uefi_c.specs.Time.{time_seen}

-- The size that a buffer needs, by the verdict on it: that of the record if the buffer is too small, 0 if there is no name.
abbrev pub NeedsSize : Verdict → ℕ → Type 0
NeedsSize without_name needed = needed ≡ 0
NeedsSize (too_small size) needed = needed ≡ size
NeedsSize (accepted name) needed = ⊥

-- The status of a verdict.
abbrev pub HasStatus : Verdict → ℕ → Type 0
HasStatus without_name status = status ≡ not_nul_terminated
HasStatus (too_small size) status = status ≡ buffer_too_small
HasStatus (accepted name) status = status ≡ ok

abbrev pub file_seen : UefiFileInfo → FileFields
file_seen seen = record {
  file_size = seen.file_size;
  physical_size = seen.physical_size;
  create_time = time_seen seen.create_time;
  last_access_time = time_seen seen.last_access_time;
  modification_time = time_seen seen.modification_time;
  attribute = seen.attribute;
}

-- The fields, with zeros in the padding of the times.
abbrev pub without_padding : FileFields → FileFields
without_padding fields = record fields {
  create_time = without_pads fields.create_time;
  last_access_time = without_pads fields.last_access_time;
  modification_time = without_pads fields.modification_time;
}

abbrev pub file_system_seen : UefiFileSystemInfo → FileSystemFields
file_system_seen seen = record { read_only = seen.read_only; volume_size = seen.volume_size; free_space = seen.free_space; block_size = seen.block_size }
