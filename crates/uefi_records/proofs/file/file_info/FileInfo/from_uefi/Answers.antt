use Rattle.std.proofs.Common.{arith}
use Rattle.uefi_records.specs.file.FileInfo.{file_name_offset}
use Rattle.uefi_records.proofs.file.Prefixes.{size_stands, file_fields_stand, in_named}
use Rattle.uefi_records.proofs.file.file_info.FileInfo.from_uefi.Goals as goal

pub returns-clause-size : goal.returns-clause-size
returns-clause-size c =
    in_named size_stands file_name_offset c.args.buffer.now c.in_ok-end.end (omega arith) c.in_ok-end.ensures.1

pub returns-clause-fields : goal.returns-clause-fields
returns-clause-fields c =
    in_named file_fields_stand file_name_offset c.args.buffer.now c.in_ok-end.end (omega arith) c.in_ok-end.ensures.1
