-- What contracts see of views of records.
use Rattle.std.specs.Prelude.{ℕ, List, ◌++◌, Bool, [], ◌∷◌, if◌then◌else◌}
use Rattle.uefi_records.specs.declared.flags.file_attribute.FileAttribute.{FileAttribute}
use Rattle.uefi_records.specs.declared.file.file_info.FileInfo.{FileInfo}
use Rattle.uefi_records.specs.declared.time.Time.{Time}
use Rattle.uefi_records.specs.flags.Views.{attribute_bits}
use Rattle.uefi_records.specs.time.Views.{time_of}
use Rattle.uefi_records.specs.file.Name.{units_from}
use Rattle.uefi_records.specs.file.FileInfo.{FileFields, file_fields, file_header, file_name_offset, size_in}
use Rattle.uefi_records.specs.declared.file.file_system_info.FileSystemInfo.{FileSystemInfo}
use Rattle.uefi_records.specs.declared.file.file_system_volume_label.FileSystemVolumeLabel.{FileSystemVolumeLabel}
use Rattle.uefi_records.specs.file.FileSystemInfo.{FileSystemFields, file_system_fields, label_offset}
use Rattle.uefi_records.specs.file.FileSystemInfo.{lone_label_offset}

-- The bytes of a file information record, up to and with its name's NUL; the size that it states, its fields, and
-- the units of its name.
abbrev pub file_info_view : FileInfo → List ℕ
file_info_view info = info.bytes.now

abbrev pub stated_size : FileInfo → ℕ
stated_size info = size_in (file_info_view info)

abbrev pub file_fields_of : FileInfo → FileFields
file_fields_of info = file_fields (file_info_view info)

abbrev pub file_name_of : FileInfo → List ℕ
file_name_of info = units_from file_name_offset (file_info_view info)

-- Equality compares the stated size and the fields, by their bytes, and the name's units.
abbrev pub file_header_of : FileInfo → List ℕ
file_header_of info = file_header (stated_size info) (file_fields_of info)

unfoldable pub file_info_key : FileInfo → List ℕ
file_info_key info = file_header_of info ++ file_name_of info

-- The fields that are passed to a writer.
abbrev pub file_fields_given : ℕ → ℕ → Time → Time → Time → FileAttribute → FileFields
file_fields_given file_size physical_size create_time last_access_time modification_time attribute = record {
  file_size = file_size;
  physical_size = physical_size;
  create_time = time_of create_time;
  last_access_time = time_of last_access_time;
  modification_time = time_of modification_time;
  attribute = attribute_bits attribute;
}

-- The bytes of a file system information record, up to and with its label's NUL; the size that it states, its
-- fields, and the units of its label.
abbrev pub file_system_info_view : FileSystemInfo → List ℕ
file_system_info_view info = info.bytes.now

abbrev pub system_stated_size : FileSystemInfo → ℕ
system_stated_size info = size_in (file_system_info_view info)

abbrev pub file_system_fields_of : FileSystemInfo → FileSystemFields
file_system_fields_of info = file_system_fields (file_system_info_view info)

abbrev pub file_system_label_of : FileSystemInfo → List ℕ
file_system_label_of info = units_from label_offset (file_system_info_view info)

-- Equality compares the numbers, with 1 for a read-only volume and 0 for others, and the label's units.
abbrev pub file_system_numbers : FileSystemInfo → List ℕ
file_system_numbers info =
    let fields = file_system_fields_of info in
    system_stated_size info ∷
    (if fields.read_only then 1 else 0) ∷ fields.volume_size ∷ fields.free_space ∷ fields.block_size ∷ []

abbrev pub file_system_info_key : FileSystemInfo → List ℕ
file_system_info_key info = file_system_numbers info ++ file_system_label_of info

abbrev pub file_system_fields_given : Bool → ℕ → ℕ → ℕ → FileSystemFields
file_system_fields_given read_only volume_size free_space block_size = record {
  read_only = read_only;
  volume_size = volume_size;
  free_space = free_space;
  block_size = block_size;
}

-- The bytes of a volume label record, and the units of its label.
abbrev pub volume_label_view : FileSystemVolumeLabel → List ℕ
volume_label_view label = label.bytes.now

abbrev pub volume_label_of : FileSystemVolumeLabel → List ℕ
volume_label_of label = units_from lone_label_offset (volume_label_view label)
