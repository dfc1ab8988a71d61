-- The text that Display writes for errors of load options.
use Rattle.std.specs.Prelude.{ℕ, List, ◌++◌, codes}
use Rattle.uefi_path.specs.declared.load_option_error.LoadOptionError.{LoadOptionError}
use Rattle.uefi_path.specs.declared.load_option_error.LoadOptionError.TheVariants.{TooShort, NotNulTerminated, FilePathListTooLong, FilePath}
use Rattle.uefi_path.specs.Texts.{error_text}

abbrev pub load_option_error_text : LoadOptionError → List ℕ
load_option_error_text TooShort = codes "fewer than 6 bytes"
load_option_error_text NotNulTerminated = codes "a description without a NUL"
load_option_error_text FilePathListTooLong = codes "a file path list beyond the end of the bytes"
load_option_error_text (FilePath fault) = codes "the first file path: " ++ error_text fault
