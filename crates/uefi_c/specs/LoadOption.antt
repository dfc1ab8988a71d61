-- Load options (UEFI 2.10, 3.1.3 "Load Options"), as a call gives them.
use Rattle.std.specs.Prelude.{ℕ, ◌≡◌, List}
use Rattle.uefi_base.specs.Unaligned.{unit_bytes}
use Rattle.uefi_path.specs.Node.{joined}
use Rattle.uefi_path.specs.LoadOption.{LoadOption, IsLoadOption, load_option_bytes, file_path_list, with_nul}
use Rattle.uefi_path.specs.declared.load_option_error.LoadOptionError.{LoadOptionError}
use Rattle.uefi_path.specs.declared.load_option_error.LoadOptionError.TheVariants.{TooShort, NotNulTerminated, FilePathListTooLong, FilePath}
use Rattle.uefi_c.specs.Status.{file_path_list_too_long, no_file_path, not_nul_terminated, too_short}
use Rattle.uefi_c.specs.declared.load_option.UefiLoadOption.{UefiLoadOption}

-- What a call gives of a load option: the bytes of its parts.
pub record Shows (option : LoadOption) (seen : UefiLoadOption) : Type 0 where
  pub attributes : seen.attributes ≡ option.attributes
  pub description : seen.description.now ≡ unit_bytes (with_nul option.description)
  pub file_path : seen.file_path.now ≡ joined option.file_path
  pub file_path_list : seen.file_path_list.now ≡ file_path_list option
  pub optional_data : seen.optional_data.now ≡ option.optional_data

-- The bytes are this load option, of which a call gives the parts.
abbrev pub IsSeenOf : List ℕ → UefiLoadOption → Type 0
IsSeenOf bytes seen = (option : LoadOption) × IsLoadOption option × (bytes ≡ load_option_bytes option) × Shows option seen

-- The status of each error.
abbrev pub status_of : LoadOptionError → ℕ
status_of TooShort = too_short
status_of NotNulTerminated = not_nul_terminated
status_of FilePathListTooLong = file_path_list_too_long
status_of (FilePath fault) = no_file_path
