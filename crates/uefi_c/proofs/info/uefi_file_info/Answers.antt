use Rattle.std.proofs.Common.{ℕ, length, take, Option, ap, ◌∙◌}
use Rattle.std.specs.Prelude.{unwrap_or}
use Rattle.uefi_records.specs.file.FileInfo.{file_info_verdict}
use Rattle.uefi_c.proofs.NameBytes.{view_within, view_named, needs}
use Rattle.uefi_c.proofs.info.uefi_file_info.Goals as goal

pub name_bytes-requires : goal.name_bytes-requires
name_bytes-requires c = view_within 80 8 _ _ _ c.in-Ok.ensures.verdict _ _ c.len.ensures c.file_name.ensures.units

pub returns-in-Ok-clause-name : goal.returns-in-Ok-clause-name
returns-in-Ok-clause-name c = λ _. view_named 80 8 c.args.written c.args.buffer.now _ c.in-Ok.ensures.verdict _ _
    c.len.ensures c.file_name.ensures.units _ c.name_bytes.ensures

pub returns-in-Err-clause-none : goal.returns-in-Err-clause-none
returns-in-Err-clause-none c = λ _.
    needs (file_info_verdict (take c.args.written c.args.buffer.now) (length c.args.buffer.now)) c.in-Err.error
    c.unwrap_or.result
    c.in-Err.ensures.verdict (c.unwrap_or.ensures ∙ ap (λ (o : Option ℕ). unwrap_or o 0) c.data.ensures)
