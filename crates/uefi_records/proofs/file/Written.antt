-- Records that were written, and the views of them.
use Rattle.std.proofs.Common.{◌≡◌, ℕ, ◌^◌, ◌<◌, ◌≤◌, List, ◌++◌, length, take, ◌∙◌, ap, arith, [], drop, refl}
use Rattle.std.specs.Prelude.{Result, Ok, Err, IfOk, OnOk, IsOk, MatchResult, ◌↔◌}
use Rattle.uefi_base.specs.Unaligned.{unit_bytes}
use Rattle.uefi_base.proofs.Written.{Wrote, Made, seen_in, made_of}
use Rattle.uefi_records.specs.declared.file.creation_error.FileInfoCreationError.{FileInfoCreationError}
use Rattle.uefi_records.specs.declared.file.creation_error.FileInfoCreationError.TheVariants.{InsufficientStorage}
use Rattle.uefi_records.specs.declared.file.file_info.FileInfo.{FileInfo}
use Rattle.uefi_records.specs.file.Name.{FitName, record_end, record_size, units_from}
use Rattle.uefi_records.specs.private.file.Kept.{EndsWithName}
use Rattle.uefi_records.specs.file.FileInfo.{FileFields, FitFile, file_fields, file_header, file_info_alignment}
use Rattle.uefi_records.specs.file.FileInfo.{file_info_size, file_name_offset, size_in}
use Rattle.uefi_records.specs.file.Views.{file_info_view, stated_size, file_fields_of, file_name_of}
use Rattle.uefi_records.specs.file.Views.{file_system_info_view, system_stated_size, file_system_fields_of}
use Rattle.uefi_records.specs.file.Views.{file_system_label_of, volume_label_view, volume_label_of}
use Rattle.uefi_records.proofs.file.FieldsBack.{file_info_back, length-file_header, file_system_info_back}
use Rattle.uefi_records.proofs.file.FieldsBack.{length-file_system_header}
use Rattle.uefi_records.proofs.file.Names.{ends_with, length-named, units_back}
use Rattle.std.proofs.lemmas.List.{length-drop, length-take-le}
use Rattle.uefi_records.specs.declared.file.file_system_info.FileSystemInfo.{FileSystemInfo}
use Rattle.uefi_records.specs.declared.file.file_system_volume_label.FileSystemVolumeLabel.{FileSystemVolumeLabel}
use Rattle.uefi_records.specs.file.FileSystemInfo.{FileSystemFields, FitFileSystem, file_system_fields}
use Rattle.uefi_records.specs.file.FileSystemInfo.{file_system_header, file_system_info_alignment}
use Rattle.uefi_records.specs.file.FileSystemInfo.{file_system_info_size, label_offset, lone_label_offset}
use Rattle.uefi_records.specs.file.FileSystemInfo.{unused_bytes, volume_label_alignment}

-- A header and a name, of which the fields fit: what the writer of such a record ensures, and what holds once a view
-- of it was made.
module _ (offset alignment : ℕ) (header name old : List ℕ) (FieldsFit : Type 0) where
  abbrev Is : Type 0
  Is = FieldsFit × FitName name

  abbrev Room : Type 0
  Room = record_size offset alignment (length name) ≤ length old

  abbrev Short : FileInfoCreationError → Type 0
  Short error = error ≡ InsufficientStorage (record_size offset alignment (length name))

  abbrev pub WroteRecord : List ℕ → Result ℕ FileInfoCreationError → Type 0
  WroteRecord new written = Wrote (header ++ unit_bytes name) old new
      (record_end offset (length name)) Is Room Short written

  abbrev pub MadeRecord : {V : Type 0} → (V → List ℕ) → List ℕ → Result V FileInfoCreationError → Type 0
  MadeRecord view new made = Made view (header ++ unit_bytes name) old new Is Room Short made

  module _ (sized : Room → length header ≡ offset) where
    part_sized : Is → Room → length (header ++ unit_bytes name) ≡ record_end offset (length name)
    part_sized is room = length-named offset header name (sized room)

    pub record_seen_in : (new : List ℕ) (written : Result ℕ FileInfoCreationError) → WroteRecord new written
        → IfOk written (λ end. (end ≤ length new) × EndsWithName offset (take end new))
    record_seen_in new written wrote = seen_in part_sized (EndsWithName offset)
        (λ is room. ends_with offset header name (sized room) is.1) written wrote

    pub record_made_of : {V : Type 0} (view : V → List ℕ) (new : List ℕ) (written : Result ℕ FileInfoCreationError)
        (made : Result V FileInfoCreationError) → WroteRecord new written
        → MatchResult written (λ end. IfOk made (λ v. view v ≡ take end new)) (λ error. made ≡ Err error)
        → IsOk made ↔ IsOk written → MadeRecord view new made
    record_made_of view new written made wrote seen ok = made_of part_sized view written made wrote seen ok

-- What the accessors of a view of a file information record return.
pub file_info_made : (fields : FileFields) (name old new : List ℕ) → length old < 2 ^ 64
    → (made : Result FileInfo FileInfoCreationError)
    → MadeRecord file_name_offset file_info_alignment (file_header (file_info_size (length name)) fields) name old
    (FitFile fields) file_info_view new made
    → IfOk made (λ info. stated_size info ≡ file_info_size (length name))
    × IfOk made (λ info. file_fields_of info ≡ fields) × IfOk made (λ info. file_name_of info ≡ name)
    × OnOk made (FitFile fields) × OnOk made (FitName name)
file_info_made fields name old new long (Ok info) made =
    let size : ℕ = file_info_size (length name) in
    let back = file_info_back size fields (unit_bytes name) made.seen.1.0 (omega (arith, long, made.seen.2)) in (
      ap size_in made.seen.0 ∙ back.0,
      ap file_fields made.seen.0 ∙ back.1,
      ap (units_from file_name_offset) made.seen.0 ∙ units_back file_name_offset (file_header size fields) name
          (length-file_header size fields) made.seen.1.1.are_units,
      made.seen.1.0,
      made.seen.1.1,
    )
file_info_made fields name old new long (Err error) made = (tt, tt, tt, tt, tt)

-- A record without fields: they fit.
pub fits_any : (written : Result ℕ FileInfoCreationError) → OnOk written (Unit {0})
fits_any (Ok end) = tt
fits_any (Err error) = tt

-- The unused bytes of a buffer with room for a file system information record, and the record's header.
seven_unused : (label old : List ℕ) → file_system_info_size (length label) ≤ length old
    → length (unused_bytes old) ≡ 7
seven_unused label old room = length-take-le 7 (drop 9 old) (omega (arith, room, length-drop 9 old))

pub system_header_sized : (size : ℕ) (fields : FileSystemFields) (label old : List ℕ)
    → file_system_info_size (length label) ≤ length old
    → length (file_system_header size fields (unused_bytes old)) ≡ label_offset
system_header_sized size fields label old room =
    length-file_system_header size fields (unused_bytes old) (seven_unused label old room)

-- What the accessors of a view of such a record return, and those of a view of a label.
pub file_system_info_made : (fields : FileSystemFields) (label old new : List ℕ) → length old < 2 ^ 64
    → (made : Result FileSystemInfo FileInfoCreationError)
    → MadeRecord label_offset file_system_info_alignment
    (file_system_header (file_system_info_size (length label)) fields (unused_bytes old)) label old
    (FitFileSystem fields) file_system_info_view new made
    → IfOk made (λ info. system_stated_size info ≡ file_system_info_size (length label))
    × IfOk made (λ info. file_system_fields_of info ≡ fields)
    × IfOk made (λ info. file_system_label_of info ≡ label)
    × OnOk made (FitFileSystem fields) × OnOk made (FitName label)
file_system_info_made fields label old new long (Ok info) made =
    let size : ℕ = file_system_info_size (length label) in
    let unused : List ℕ = unused_bytes old in
    let back = file_system_info_back size fields unused (unit_bytes label)
    (seven_unused label old made.seen.2) made.seen.1.0 (omega (arith, long, made.seen.2)) in (
      ap size_in made.seen.0 ∙ back.0,
      ap file_system_fields made.seen.0 ∙ back.1,
      ap (units_from label_offset) made.seen.0
          ∙ units_back label_offset (file_system_header size fields unused) label
          (system_header_sized size fields label old made.seen.2) made.seen.1.1.are_units,
      made.seen.1.0,
      made.seen.1.1,
    )
file_system_info_made fields label old new long (Err error) made = (tt, tt, tt, tt, tt)

pub volume_label_made : (label old new : List ℕ) (made : Result FileSystemVolumeLabel FileInfoCreationError)
    → MadeRecord lone_label_offset volume_label_alignment [] label old (Unit {0}) volume_label_view new made
    → IfOk made (λ made. volume_label_of made ≡ label) × OnOk made (FitName label)
volume_label_made label old new (Ok view) made = (
  ap (units_from lone_label_offset) made.seen.0
      ∙ units_back lone_label_offset [] label refl made.seen.1.1.are_units,
  made.seen.1.1,
)
volume_label_made label old new (Err error) made = (tt, tt)
