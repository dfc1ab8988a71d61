use Rattle.std.proofs.Common.{sym, ◌∙◌}
use Rattle.uefi_examples.proofs.NamedRecords.{errors_alike, names_alike, not_refused_alone}
use Rattle.uefi_examples.proofs.records.are_read_alike.Goals as goal

pub returns-in_default : goal.returns-in_default
returns-in_default c = not_refused_alone c.written_alone.ensures 80 8 c.args.written c.args.one.now c.args.other.now
    c.requires.lengths c.requires.same _ _ c.in_default.ensures.verdict c.in_default.ensures'.verdict

pub returns-in-Ok-Ok : goal.returns-in-Ok-Ok
returns-in-Ok-Ok c =
    let same = c.written_alone.ensures.file_info c.args.written c.args.one.now c.args.other.now _ c.requires.same
    c.in-Ok-Ok.ensures.verdict in
    c.is_same_file.ensures.1 (
      c.in-Ok-Ok.ensures.size ∙ (same.0 ∙ sym c.in-Ok-Ok.ensures'.size),
      c.in-Ok-Ok.ensures.fields ∙ (same.1 ∙ sym c.in-Ok-Ok.ensures'.fields),
      names_alike c.written_alone.ensures 80 8 c.args.written c.args.one.now c.args.other.now c.requires.lengths
          c.requires.same _ _ c.in-Ok-Ok.ensures.verdict c.in-Ok-Ok.ensures'.verdict,
    )

pub returns-in-Err-Err : goal.returns-in-Err-Err
returns-in-Err-Err c =
    c.is_same_error.ensures.1 (errors_alike c.written_alone.ensures 80 8 c.args.written c.args.one.now
    c.args.other.now c.requires.lengths c.requires.same _ _ c.in-Err-Err.ensures.verdict c.in-Err-Err.ensures'.verdict)
