-- Load options (UEFI 2.10, 3.1.3 "Load Options", EFI_LOAD_OPTION): the values of the variables Boot####, Driver####
-- and others.
use Rattle.std.specs.Prelude.{ℕ, ◌≡◌, ◌<◌, ◌≤◌, ◌^◌, List, [], ◌∷◌, ◌++◌, length, take, drop, Result, IfOk, IfErr, OnErr}
use Rattle.std.specs.List.{AllByRecursion}
use Rattle.uefi_base.specs.LittleEndian.{u16_at, u16_bytes, u32_bytes}
use Rattle.uefi_base.specs.Unaligned.{unit_bytes}
use Rattle.uefi_path.specs.Node.{Node, joined}
use Rattle.uefi_path.specs.Path.{IsPath, HasPath}
use Rattle.uefi_path.specs.declared.load_option_error.LoadOptionError.{LoadOptionError}
use Rattle.uefi_path.specs.declared.load_option_error.LoadOptionError.TheVariants.{TooShort, NotNulTerminated, FilePathListTooLong, FilePath}

-- A load option: its attributes; the units of its description, without the NUL; the path to the image, which comes
-- first in the file path list; the bytes of that list after this path, which belong to the operating system's vendor;
-- and the data that the image is given.
pub record LoadOption : Type 0 where
  pub attributes : ℕ
  pub description : List ℕ
  pub file_path : List Node
  pub other_paths : List ℕ
  pub optional_data : List ℕ

-- The bytes of the file path list.
abbrev pub file_path_list : LoadOption → List ℕ
file_path_list option = joined option.file_path ++ option.other_paths

-- The units of a description: none of them is zero.
abbrev pub AreNonzeroUnits : List ℕ → Type 0
AreNonzeroUnits units = AllByRecursion (λ unit. (0 < unit) × (unit < 2 ^ 16)) units

-- Units, and the NUL that ends them.
abbrev pub with_nul : List ℕ → List ℕ
with_nul units = units ++ 0 ∷ []

-- The attributes fit four bytes, and the length of the file path list two.
pub record IsLoadOption (option : LoadOption) : Type 0 where
  pub attributes : option.attributes < 2 ^ 32
  pub description : AreNonzeroUnits option.description
  pub file_path : IsPath option.file_path
  pub file_path_list : length (file_path_list option) < 2 ^ 16

-- The layout: the attributes, the length of the file path list, the description with its NUL, the file path list and
-- the data.
unfoldable pub load_option_bytes : LoadOption → List ℕ
load_option_bytes option = u32_bytes option.attributes ++ (u16_bytes (length (file_path_list option))
    ++ (unit_bytes (with_nul option.description) ++ (file_path_list option ++ option.optional_data)))

-- The bytes are some load option.
abbrev pub EncodesLoadOption : List ℕ → Type 0
EncodesLoadOption bytes = (option : LoadOption) × IsLoadOption option × (bytes ≡ load_option_bytes option)

-- The offsets of the length of the file path list and of the description.
abbrev pub list_length_offset : ℕ
list_length_offset = 4

abbrev pub description_offset : ℕ
description_offset = 6

-- The bytes begin with this description, and the rest follows.
abbrev pub SplitsAfter : List ℕ → List ℕ → List ℕ → Type 0
SplitsAfter description bytes rest = AreNonzeroUnits description × (bytes ≡ unit_bytes (with_nul description) ++ rest)

-- The bytes begin with a description.
abbrev pub HasDescription : List ℕ → Type 0
HasDescription bytes = (description rest : List ℕ) × SplitsAfter description bytes rest

-- The bytes have a description where a load option has it, and this rest follows.
abbrev pub HasRest : List ℕ → List ℕ → Type 0
HasRest bytes rest = (description : List ℕ) × (description_offset ≤ length bytes)
    × SplitsAfter description (drop description_offset bytes) rest

-- Why bytes are no load option: they are too short; or no description is where it has to be; or after it there are
-- fewer bytes than the file path list is stated to have; or that list begins with no path.
abbrev pub HasFault : List ℕ → LoadOptionError → Type 0
HasFault bytes TooShort = length bytes < description_offset
HasFault bytes NotNulTerminated =
    (description_offset ≤ length bytes) × ¬ HasDescription (drop description_offset bytes)
HasFault bytes FilePathListTooLong =
    (rest : List ℕ) × HasRest bytes rest × (length rest < u16_at bytes list_length_offset)
HasFault bytes (FilePath error) = (rest : List ℕ) × HasRest bytes rest
    × (u16_at bytes list_length_offset ≤ length rest) × ¬ HasPath (take (u16_at bytes list_length_offset) rest)

-- At Ok, the load option that the bytes are; at Err, why they are none.
pub record ReadsLoadOption {V : Type 0} (option_of : V → LoadOption) (bytes : List ℕ)
    (read : Result V LoadOptionError) : Type 0 where
  pub ok : IfOk read (λ view. IsLoadOption (option_of view) × (bytes ≡ load_option_bytes (option_of view)))
  pub err : IfErr read (HasFault bytes)
  pub none : OnErr read (¬ EncodesLoadOption bytes)

-- Bytes are at most one load option.
abbrev pub OneLoadOption : Type 0
OneLoadOption = (option other : LoadOption) → IsLoadOption option → IsLoadOption other
    → load_option_bytes option ≡ load_option_bytes other → option ≡ other
