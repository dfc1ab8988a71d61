use Rattle.std.proofs.Common.{◌∙◌}
use Rattle.std.proofs.lemmas.Slice.Eq.{bytes_eq-Decides}
use Rattle.uefi_records.specs.file.Views.{volume_label_of}
use Rattle.uefi_examples.proofs.NamedRecords.{errors_alike, names_alike, not_refused_alone}
use Rattle.uefi_examples.proofs.volumes.are_labels_read_alike.Goals as goal

pub returns-in_default : goal.returns-in_default
returns-in_default c = not_refused_alone c.written_alone.ensures 0 2 c.args.written c.args.one.now c.args.other.now
    c.requires.lengths c.requires.same _ _ c.in_default.ensures.verdict c.in_default.ensures'.verdict

pub returns-in-Ok-Ok : goal.returns-in-Ok-Ok
returns-in-Ok-Ok c =
    c.eq.ensures ∙ (bytes_eq-Decides (volume_label_of c.in-Ok-Ok.one) (volume_label_of c.in-Ok-Ok.other)).1
    (names_alike c.written_alone.ensures 0 2 c.args.written c.args.one.now c.args.other.now c.requires.lengths
    c.requires.same _ _ c.in-Ok-Ok.ensures.verdict c.in-Ok-Ok.ensures'.verdict)

pub returns-in-Err-Err : goal.returns-in-Err-Err
returns-in-Err-Err c =
    c.is_same_error.ensures.1 (errors_alike c.written_alone.ensures 0 2 c.args.written c.args.one.now
    c.args.other.now c.requires.lengths c.requires.same _ _ c.in-Err-Err.ensures.verdict c.in-Err-Err.ensures'.verdict)
