-- File information records are equal exactly if their accessors return the same.
use Rattle.std.proofs.Common.{◌≡◌, ◌++◌, take, drop, sym, ◌∙◌, ap, arith}
use Rattle.std.proofs.lemmas.List.{take_at, drop_at}
use Rattle.uefi_records.specs.declared.file.file_info.FileInfo.{FileInfo}
use Rattle.uefi_records.specs.file.FileInfo.{file_header, file_name_offset}
use Rattle.uefi_records.specs.file.Views.{stated_size, file_fields_of, file_info_view, file_info_key, file_header_of}
use Rattle.uefi_records.specs.file.Views.{file_name_of}
use Rattle.uefi_records.specs.Laws.{EqualFiles}
use Rattle.uefi_records.proofs.file.FieldsBack.{length-file_header, header_back}
use Rattle.uefi_records.proofs.file.Prefixes.{size_stands, file_fields_stand, in_both}

-- What file information records are compared by starts with the bytes before the name, and ends with the name.
header_in_key : (info : FileInfo) → take file_name_offset (file_info_key info)
    ≡ take file_name_offset (file_info_view info)
unfolding file_info_key
header_in_key info =
    take_at (file_header_of info) (file_name_of info) file_name_offset
    (length-file_header (stated_size info) (file_fields_of info))
    ∙ sym (header_back (file_info_view info) info.are_bytes info.named.before)

name_in_key : (info : FileInfo) → drop file_name_offset (file_info_key info) ≡ file_name_of info
unfolding file_info_key
name_in_key info = drop_at (file_header_of info) (file_name_of info) file_name_offset
    (length-file_header (stated_size info) (file_fields_of info))

pub equal_files : EqualFiles
unfolding file_info_key
equal_files = record {
  keys = λ one other. (
    λ same.
        let bytes = sym (header_in_key one) ∙ ap (take file_name_offset) same ∙ header_in_key other in (
          in_both size_stands file_name_offset (file_info_view one) (file_info_view other) (omega arith) bytes,
          in_both file_fields_stand file_name_offset (file_info_view one) (file_info_view other) (omega arith) bytes,
          sym (name_in_key one) ∙ ap (drop file_name_offset) same ∙ name_in_key other,
        ),
    λ same i. file_header (same.0 i) (same.1 i) ++ same.2 i,
  );
}
