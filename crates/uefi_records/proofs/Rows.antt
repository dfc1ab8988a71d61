-- The worked rows hold.
use Rattle.uefi_records.specs.time.Fields.{time_bytes}
use Rattle.uefi_records.specs.file.FileInfo.{file_header}
use Rattle.uefi_records.specs.file.FileSystemInfo.{file_system_header}
use Rattle.uefi_records.specs.rows.Records.{RowsHold}

pub rows_hold : RowsHold
unfolding time_bytes file_header file_system_header
rows_hold = assumption
