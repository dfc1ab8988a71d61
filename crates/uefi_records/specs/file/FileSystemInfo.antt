-- File system information records, and records of a volume label alone (UEFI 2.10, 13.5
-- "EFI_FILE_PROTOCOL.GetInfo()", EFI_FILE_SYSTEM_INFO and EFI_FILE_SYSTEM_VOLUME_LABEL).
use Rattle.std.specs.Prelude.{ℕ, ◌^◌, ◌<◌, Bool, not, ◌==◌, List, [], ◌∷◌, ◌++◌, length, slice_index, slice_range, if◌then◌else◌}
use Rattle.uefi_base.specs.LittleEndian.{u32_at, u32_bytes, u64_at, u64_bytes}
use Rattle.uefi_base.specs.Unaligned.{unit_bytes}
use Rattle.uefi_records.specs.file.Name.{record_size}
use Rattle.uefi_records.specs.file.Verdict.{Verdict, verdict}

-- The fields of the record, but for its own size and its label.
pub record FileSystemFields : Type 0 where
  pub read_only : Bool
  pub volume_size : ℕ
  pub free_space : ℕ
  pub block_size : ℕ

-- Each number fits its bytes.
pub record FitFileSystem (fields : FileSystemFields) : Type 0 where
  pub volume_size : fields.volume_size < 2 ^ 64
  pub free_space : fields.free_space < 2 ^ 64
  pub block_size : fields.block_size < 2 ^ 32

-- The offset of the label.
abbrev pub label_offset : ℕ
label_offset = 36

-- The seven bytes without meaning.
abbrev pub unused_bytes : List ℕ → List ℕ
unused_bytes bytes = slice_range bytes 9 16

-- The size of the record is a multiple of this.
abbrev pub file_system_info_alignment : ℕ
file_system_info_alignment = 8

-- The fields, each at its offset. The volume is read-only if the byte isn't zero.
abbrev pub file_system_fields : List ℕ → FileSystemFields
file_system_fields bytes = record {
  read_only = not (slice_index bytes 8 == 0);
  volume_size = u64_at bytes 16;
  free_space = u64_at bytes 24;
  block_size = u32_at bytes 32;
}

-- The size of the record of a label of this many units, and the verdict on bytes that were written.
abbrev pub file_system_info_size : ℕ → ℕ
file_system_info_size units = record_size label_offset file_system_info_alignment units

abbrev pub file_system_info_verdict : List ℕ → ℕ → Verdict
file_system_info_verdict written room = verdict label_offset file_system_info_alignment written room

-- The bytes before the label, with those without meaning among them, and those of the whole record without its
-- rounding bytes.
unfoldable pub file_system_header : ℕ → FileSystemFields → List ℕ → List ℕ
file_system_header size fields unused =
    u64_bytes size
    ++ ((if fields.read_only then 1 else 0) ∷ [])
    ++ unused
    ++ u64_bytes fields.volume_size
    ++ u64_bytes fields.free_space
    ++ u32_bytes fields.block_size

abbrev pub file_system_info_bytes : FileSystemFields → List ℕ → List ℕ → List ℕ
file_system_info_bytes fields unused label = file_system_header (file_system_info_size (length label)) fields unused
    ++ unit_bytes label

-- The record of a label alone: its units, from the first byte on.
abbrev pub lone_label_offset : ℕ
lone_label_offset = 0

abbrev pub volume_label_alignment : ℕ
volume_label_alignment = 2

abbrev pub volume_label_size : ℕ → ℕ
volume_label_size units = record_size lone_label_offset volume_label_alignment units

abbrev pub volume_label_verdict : List ℕ → ℕ → Verdict
volume_label_verdict written room = verdict lone_label_offset volume_label_alignment written room

abbrev pub volume_label_bytes : List ℕ → List ℕ
volume_label_bytes label = unit_bytes label
