-- The text of a record that was not written.
use Rattle.std.specs.Prelude.{List, ◌++◌, ℕ, codes, decimal}
use Rattle.uefi_records.specs.declared.file.creation_error.FileInfoCreationError.{FileInfoCreationError}
use Rattle.uefi_records.specs.declared.file.creation_error.FileInfoCreationError.TheVariants.{InsufficientStorage}

-- The text names the size of the record.
abbrev pub creation_error_text : FileInfoCreationError → List ℕ
creation_error_text (InsufficientStorage size) = codes "provided buffer was too small. need at least "
    ++ decimal size ++ codes " bytes"
