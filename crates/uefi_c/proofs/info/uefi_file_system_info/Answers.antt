use Rattle.uefi_c.proofs.NameBytes.{view_within, view_named}
use Rattle.uefi_c.proofs.info.uefi_file_system_info.Goals as goal

pub name_bytes-requires : goal.name_bytes-requires
name_bytes-requires c = view_within 36 8 _ _ _ c.in-Ok.ensures.verdict _ _ c.len.ensures
    c.volume_label.ensures.units

pub returns-in-Ok-clause-label : goal.returns-in-Ok-clause-label
returns-in-Ok-clause-label c = λ _. view_named 36 8 c.args.written c.args.buffer.now _ c.in-Ok.ensures.verdict _ _
    c.len.ensures c.volume_label.ensures.units _ c.name_bytes.ensures
