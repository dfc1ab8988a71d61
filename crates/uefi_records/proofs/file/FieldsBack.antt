-- The stated size and the fields of records, and the bytes before their names.
use Rattle.std.proofs.Common.{◌≡◌, ℕ, ◌+◌, ◌^◌, ◌<◌, ◌≤◌, List, [], ◌++◌, length, take, refl, sym, ◌∙◌, ap}
use Rattle.std.proofs.Common.{arith, Bool, true, false}
use Rattle.std.specs.Prelude.{slice_range, not, ◌==◌, if◌then◌else◌}
use Rattle.std.proofs.lemmas.Grind.{common_steps}
use Rattle.std.proofs.lemmas.List.{take_all}
use Rattle.std.proofs.lemmas.Nat.{from_le_bytes-to_le_bytes_8, from_le_bytes-to_le_bytes_4}
use Rattle.std.proofs.Math.Seq.{take-add}
use Rattle.uefi_base.specs.LittleEndian.{AreBytes, u64_at, u64_bytes}
use Rattle.uefi_base.proofs.NumbersBack.{numbers_read_back, length-range, AreBytes-range}
use Rattle.uefi_records.specs.time.Fields.{time_at, time_bytes, time_length}
use Rattle.uefi_records.specs.file.FileInfo.{FileFields, FitFile, file_fields, file_header, file_name_offset, size_in}
use Rattle.uefi_records.proofs.time.ReadBack.{times_read_back}
use Rattle.uefi_base.proofs.Ranges.{items_from, drop-items_from}
use Rattle.uefi_records.specs.file.FileSystemInfo.{FileSystemFields, FitFileSystem, file_system_fields}
use Rattle.uefi_records.specs.file.FileSystemInfo.{file_system_header, label_offset}

-- What was written to a file information record is read from it, whatever follows.
pub file_info_back : (size : ℕ) (fields : FileFields) (rest : List ℕ) → FitFile fields → size < 2 ^ 64
    → (size_in (file_header size fields ++ rest) ≡ size) × (file_fields (file_header size fields ++ rest) ≡ fields)
unfolding file_header time_bytes
file_info_back size fields rest fits small =
    let file_size = from_le_bytes-to_le_bytes_8 fields.file_size fits.file_size in
    let physical_size = from_le_bytes-to_le_bytes_8 fields.physical_size fits.physical_size in
    let create_time = times_read_back.written fields.create_time [] fits.create_time in
    let last_access_time = times_read_back.written fields.last_access_time [] fits.last_access_time in
    let modification_time = times_read_back.written fields.modification_time [] fits.modification_time in
    let attribute = from_le_bytes-to_le_bytes_8 fields.attribute fits.attribute in (
      from_le_bytes-to_le_bytes_8 size small,
      rw (file_size, physical_size, create_time, last_access_time, modification_time, attribute),
    )

pub length-file_header : (size : ℕ) (fields : FileFields) → length (file_header size fields) ≡ file_name_offset
unfolding file_header time_bytes
length-file_header size fields = refl

-- The bytes before the name are those of the stated size and the fields that are read from them.
then_range : (n m : ℕ) (bytes done part : List ℕ) → take n bytes ≡ done → slice_range bytes n (n + m) ≡ part
    → take (n + m) bytes ≡ done ++ part
then_range n m bytes done part before is = grind (arith, common_steps, take-add n m bytes)

time_range : (bytes : List ℕ) (offset : ℕ) → AreBytes bytes → offset + time_length ≤ length bytes
    → slice_range bytes offset (offset + time_length) ≡ time_bytes (time_at bytes offset)
unfolding time_bytes
time_range bytes offset small within =
    let part : List ℕ = slice_range bytes offset (offset + time_length) in
    let long : length part ≡ time_length = length-range bytes offset time_length within in
    let stands = times_read_back.read part (AreBytes-range bytes offset (offset + time_length) small)
    (omega (arith, long)) in
    sym (take_all time_length part (omega (arith, long))) ∙ ap (take time_length) stands.1.1

number_range : (bytes : List ℕ) (offset : ℕ) → AreBytes bytes → offset + 8 ≤ length bytes
    → slice_range bytes offset (offset + 8) ≡ u64_bytes (u64_at bytes offset)
number_range bytes offset small within = sym (numbers_read_back.read.u64 bytes offset small within)

pub header_back : (bytes : List ℕ) → AreBytes bytes → file_name_offset ≤ length bytes
    → take file_name_offset bytes ≡ file_header (size_in bytes) (file_fields bytes)
unfolding file_header
header_back bytes small within =
    let size = then_range 0 8 bytes [] _ refl (number_range bytes 0 small (omega arith)) in
    let file_size = then_range 8 8 bytes _ _ size (number_range bytes 8 small (omega arith)) in
    let physical_size = then_range 16 8 bytes _ _ file_size (number_range bytes 16 small (omega arith)) in
    let create_time = then_range 24 16 bytes _ _ physical_size (time_range bytes 24 small (omega arith)) in
    let last_access_time = then_range 40 16 bytes _ _ create_time (time_range bytes 40 small (omega arith)) in
    let modification_time = then_range 56 16 bytes _ _ last_access_time (time_range bytes 56 small (omega arith)) in
    then_range 72 8 bytes _ _ modification_time (number_range bytes 72 small within)

-- The unused bytes of a file system information record, written out.
unused_items : (unused : List ℕ) → length unused ≡ 7 → unused ≡ items_from 0 7 unused
unused_items unused seven =
    grind (arith, common_steps, drop-items_from 0 7 7 unused refl (omega (arith, seven)))

pub length-file_system_header : (size : ℕ) (fields : FileSystemFields) (unused : List ℕ)
    → length unused ≡ 7 → length (file_system_header size fields unused) ≡ label_offset
unfolding items_from file_system_header
length-file_system_header size fields unused seven =
    ap (λ u. length (file_system_header size fields u)) (unused_items unused seven)

-- What was written to such a record is read from it, whatever follows and whatever the unused bytes are.
is_read_only : (read_only : Bool) → not ((if read_only then 1 else 0) == 0) ≡ read_only
is_read_only true = refl
is_read_only false = refl

pub file_system_info_back : (size : ℕ) (fields : FileSystemFields) (unused rest : List ℕ)
    → length unused ≡ 7 → FitFileSystem fields → size < 2 ^ 64
    → (size_in (file_system_header size fields unused ++ rest) ≡ size)
    × (file_system_fields (file_system_header size fields unused ++ rest) ≡ fields)
unfolding items_from file_system_header
file_system_info_back size fields unused rest seven fits small =
    let read_only = is_read_only fields.read_only in
    let volume_size = from_le_bytes-to_le_bytes_8 fields.volume_size fits.volume_size in
    let free_space = from_le_bytes-to_le_bytes_8 fields.free_space fits.free_space in
    let block_size = from_le_bytes-to_le_bytes_4 fields.block_size fits.block_size in (
      from_le_bytes-to_le_bytes_8 size small,
      ap (λ u. file_system_fields (file_system_header size fields u ++ rest)) (unused_items unused seven)
          ∙ rw (read_only, volume_size, free_space, block_size),
    )
