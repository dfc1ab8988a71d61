-- Load options (UEFI 2.10, 3.1.3 "Load Options"), as a call writes them.
use Rattle.std.specs.Prelude.{ℕ, ◌≡◌, ◌+◌, ◌*◌, ◌%◌, ◌<◌, ◌^◌, List, length}
use Rattle.uefi_base.specs.Buffer.{put_prefix}
use Rattle.uefi_base.specs.Unaligned.{units_of}
use Rattle.uefi_path.specs.LoadOption.{AreNonzeroUnits, IsLoadOption, LoadOption, description_offset, file_path_list, load_option_bytes, with_nul}
use Rattle.uefi_path.specs.Path.{HasPath}
use Rattle.uefi_c.specs.declared.load_option.UefiLoadOption.{UefiLoadOption}

-- The option has the parts that the call is given. `file_path` isn't one: it is the first of the list.
pub record HasSeenParts (seen : UefiLoadOption) (option : LoadOption) : Type 0 where
  pub attributes : option.attributes ≡ seen.attributes
  pub description : with_nul option.description ≡ units_of seen.description.now
  pub file_path_list : file_path_list option ≡ seen.file_path_list.now
  pub optional_data : option.optional_data ≡ seen.optional_data.now

-- The bytes are whole units, of which the last alone is zero.
abbrev pub IsDescription : List ℕ → Type 0
IsDescription bytes = (length bytes % 2 ≡ 0)
    × ((units : List ℕ) × AreNonzeroUnits units × (with_nul units ≡ units_of bytes))

-- The list begins with a path, and its length fits two bytes.
abbrev pub IsList : List ℕ → Type 0
IsList bytes = HasPath bytes × (length bytes < 2 ^ 16)

-- The length of the option.
abbrev pub option_size : UefiLoadOption → ℕ
option_size seen = description_offset + 2 * length (units_of seen.description.now) + length seen.file_path_list.now
    + length seen.optional_data.now

-- The buffer begins with the option, and the other bytes are as they were.
abbrev pub IsOptionWritten : UefiLoadOption → List ℕ → List ℕ → Type 0
IsOptionWritten seen old new = (option : LoadOption) × IsLoadOption option × HasSeenParts seen option
    × (new ≡ put_prefix (load_option_bytes option) old)
