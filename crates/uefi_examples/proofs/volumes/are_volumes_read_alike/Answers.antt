use Rattle.std.proofs.Common.{sym, ◌∙◌, ◌≡◌}
use Rattle.std.proofs.lemmas.Slice.Eq.{bytes_eq-Decides}
use Rattle.uefi_records.specs.declared.file.file_system_info.FileSystemInfo.{FileSystemInfo}
use Rattle.uefi_records.specs.file.Views.{file_system_fields_of, file_system_info_key, file_system_label_of}
use Rattle.uefi_records.specs.file.Views.{system_stated_size}
use Rattle.uefi_examples.proofs.NamedRecords.{errors_alike, names_alike, not_refused_alone}
use Rattle.uefi_examples.proofs.volumes.are_volumes_read_alike.Goals as goal

-- What equality compares is the same where the stated sizes, the fields and the labels are.
same_key : (one other : FileSystemInfo) → system_stated_size one ≡ system_stated_size other
    → file_system_fields_of one ≡ file_system_fields_of other
    → file_system_label_of one ≡ file_system_label_of other → file_system_info_key one ≡ file_system_info_key other
same_key one other size fields label = cc

pub returns-in_default : goal.returns-in_default
returns-in_default c = not_refused_alone c.written_alone.ensures 36 8 c.args.written c.args.one.now c.args.other.now
    c.requires.lengths c.requires.same _ _ c.in_default.ensures.verdict c.in_default.ensures'.verdict

pub returns-in-Ok-Ok : goal.returns-in-Ok-Ok
returns-in-Ok-Ok c =
    let one = c.in-Ok-Ok.ensures in
    let other = c.in-Ok-Ok.ensures' in
    let same = c.written_alone.ensures.file_system_info c.args.written c.args.one.now c.args.other.now _
    c.requires.same one.verdict in
    let label =
    names_alike c.written_alone.ensures 36 8 c.args.written c.args.one.now c.args.other.now c.requires.lengths
    c.requires.same _ _ one.verdict other.verdict in
    let key = same_key c.in-Ok-Ok.one c.in-Ok-Ok.other (one.size ∙ (same.0 ∙ sym other.size))
    (one.fields ∙ (same.1 ∙ sym other.fields)) label in
    c.eq.ensures ∙ (bytes_eq-Decides (file_system_info_key c.in-Ok-Ok.one) (file_system_info_key c.in-Ok-Ok.other)).1
    key

pub returns-in-Err-Err : goal.returns-in-Err-Err
returns-in-Err-Err c =
    c.is_same_error.ensures.1 (errors_alike c.written_alone.ensures 36 8 c.args.written c.args.one.now
    c.args.other.now c.requires.lengths c.requires.same _ _ c.in-Err-Err.ensures.verdict c.in-Err-Err.ensures'.verdict)
