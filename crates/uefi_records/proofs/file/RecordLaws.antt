-- The laws of records.
use Rattle.std.proofs.Common.{◌≡◌, ℕ, ◌-◌, ◌<◌, ◌≤◌, Some, List, [], ◌++◌, length, get_or}
use Rattle.std.proofs.Common.{take, drop, refl, sym, ◌∙◌, ap, subst, arith, append_assoc, inl, inr}
use Rattle.std.proofs.lemmas.Bool.{cases_lt}
use Rattle.std.proofs.lemmas.Grind.{common_steps}
use Rattle.std.proofs.lemmas.List.{take_at, get_or-take}
use Rattle.uefi_base.specs.Unaligned.{unit_bytes, units_of}
use Rattle.uefi_base.proofs.UnitsOfBytes.{units_by_place}
use Rattle.uefi_records.specs.file.Name.{IsName, FitName, first_zero, record_end, record_size, units_from}
use Rattle.uefi_records.specs.file.Verdict.{accepted, judged, verdict, without_name}
use Rattle.uefi_records.specs.file.FileInfo.{file_header, file_info_alignment, file_info_size}
use Rattle.uefi_records.specs.file.FileInfo.{file_name_offset}
use Rattle.uefi_records.specs.file.FileSystemInfo.{file_system_header, file_system_info_alignment}
use Rattle.uefi_records.specs.file.FileSystemInfo.{file_system_info_size, label_offset, lone_label_offset}
use Rattle.uefi_records.specs.file.FileSystemInfo.{volume_label_alignment}
use Rattle.uefi_records.specs.Laws.{FileInfoReadsBack, FileSystemInfoReadsBack, VolumeLabelReadsBack}
use Rattle.uefi_records.specs.Laws.{ReadsBack, WrittenAlone}
use Rattle.uefi_records.proofs.file.FieldsBack.{file_info_back, length-file_header}
use Rattle.uefi_records.proofs.file.FirstZero.{IsFirstAt, one_first}
use Rattle.uefi_records.proofs.file.Judging.{units_of_prefix, accepted_at}
use Rattle.uefi_records.proofs.file.Names.{length-named, units_back}
use Rattle.uefi_records.proofs.file.FieldsBack.{length-file_system_header, file_system_info_back}
use Rattle.uefi_records.proofs.file.Prefixes.{size_stands, file_fields_stand, file_system_fields_stand, in_both}

-- Units that start with a name have their first zero at the name's end.
first_zero_of_name : (units name : List ℕ) → IsName name → take (length name) units ≡ name
    → length name ≤ length units → IsFirstAt units (length name - 1)
first_zero_of_name units name is prefix enough =
    let at : (k : ℕ) → k < length name → get_or units k 0 ≡ get_or name k 0 =
    λ k within. sym (get_or-take (length name) units k 0 within) ∙ ap (λ us. get_or us k 0) prefix in
    record {
      within = omega (arith, is.not_empty, enough);
      is_zero = at (length name - 1) (omega (arith, is.not_empty)) ∙ is.nul;
      before = λ k before. rw (at k (omega (arith, before))) (is.others k before);
    }

-- A record whose name follows its header is accepted with that name.
name_accepted : (offset alignment : ℕ) (header name rest : List ℕ) (written : ℕ) → length header ≡ offset
    → FitName name → record_end offset (length name) ≤ written
    → let buffer = (header ++ unit_bytes name) ++ rest in
    record_size offset alignment (length name) ≤ length buffer → verdict offset alignment (take written buffer)
    (length buffer) ≡ accepted name
name_accepted offset alignment header name rest written sized fit covers room =
    let buffer : List ℕ = (header ++ unit_bytes name) ++ rest in
    let end : ℕ = record_end offset (length name) in
    let record_sized : length (header ++ unit_bytes name) ≡ end = length-named offset header name sized in
    let seen : List ℕ = units_from offset (take written buffer) in
    let prefix : take (length name) seen ≡ name =
    units_of_prefix buffer offset (length name) written covers
    ∙ ap (units_from offset) (take_at (header ++ unit_bytes name) rest end record_sized)
    ∙ units_back offset header name sized fit.are_units in
    let enough : length name ≤ length seen =
    grind (arith, common_steps, units_by_place.counted (drop offset (take written buffer)), record_sized, covers) in
    let first : first_zero seen ≡ Some (length name - 1) =
    one_first seen (length name - 1) (first_zero_of_name seen name fit.is_name prefix enough) in
    accepted_at offset alignment (length buffer) (length name - 1) (length name) (take written buffer) first
    (omega (arith, fit.is_name.not_empty)) room ∙ ap (λ units. accepted units) prefix

file_info_reads_back : FileInfoReadsBack
file_info_reads_back fields name rest written fits fit small covers room =
    let size : ℕ = file_info_size (length name) in
    let sized : length (file_header size fields) ≡ file_name_offset = length-file_header size fields in
    let back = file_info_back size fields (unit_bytes name ++ rest) fits small in (
      name_accepted file_name_offset file_info_alignment (file_header size fields) name rest written sized fit covers
          room,
      rw append_assoc back.0,
      rw append_assoc back.1,
    )

file_system_info_reads_back : FileSystemInfoReadsBack
file_system_info_reads_back fields unused label rest written seven fits fit small covers room =
    let size : ℕ = file_system_info_size (length label) in
    let header : List ℕ = file_system_header size fields unused in
    let sized : length header ≡ label_offset = length-file_system_header size fields unused seven in
    let back = file_system_info_back size fields unused (unit_bytes label ++ rest) seven fits small in (
      name_accepted label_offset file_system_info_alignment header label rest written sized fit covers room,
      rw append_assoc back.0,
      rw append_assoc back.1,
    )

volume_label_reads_back : VolumeLabelReadsBack
volume_label_reads_back label rest written fit covers room =
    name_accepted lone_label_offset volume_label_alignment [] label rest written refl fit covers room

pub reads_back : ReadsBack
reads_back = assumption (file_info_reads_back, file_system_info_reads_back, volume_label_reads_back)

-- If a record is accepted, the written bytes cover its header.
covers_of : (offset alignment written : ℕ) (buffer name : List ℕ)
    → verdict offset alignment (take written buffer) (length buffer) ≡ accepted name → offset ≤ written
covers_of offset alignment written buffer name is = elim (cases_lt written offset) [
  | inl short ↦
      let nothing : drop offset (take written buffer) ≡ [] = grind (arith, common_steps) in
      let none : without_name ≡ accepted name = subst (λ part. judged offset alignment (units_of part) (length buffer)
      (first_zero (units_of part)) ≡ accepted name) nothing is in
      absurd (cc)
  | inr enough ↦ enough
]

pub written_alone : WrittenAlone
written_alone = record {
  verdicts = λ offset alignment written one other long same. λ i. verdict offset alignment (same i) (long i);
  file_info = λ written one other name same is.
      let enough : file_name_offset ≤ written = covers_of file_name_offset file_info_alignment written one name is in
      let size = in_both size_stands written one other (omega arith) same in
      (size, in_both file_fields_stand written one other enough same);
  file_system_info = λ written one other label same is.
      let enough : label_offset ≤ written = covers_of label_offset file_system_info_alignment written one label is in
      let size = in_both size_stands written one other (omega arith) same in
      (size, in_both file_system_fields_stand written one other enough same);
}
