-- What a load option is written from, and when a writer fails.
use Rattle.std.specs.Prelude.{ℕ, ◌≡◌, ◌+◌, ◌*◌, ◌<◌, ◌^◌, List, length, Option, None, SomeIff}
use Rattle.uefi_base.specs.Buffer.{put_prefix}
use Rattle.uefi_base.specs.Views.{text_units, slice_units, error_status, error_data}
use Rattle.uefi_base.specs.declared.status.Error.{Error}
use Rattle.uefi_base.specs.declared.status.Status.TheVariants.{INVALID_PARAMETER, BUFFER_TOO_SMALL, OUT_OF_RESOURCES}
use Rattle.uefi_path.specs.LoadOption.{LoadOption, IsLoadOption, description_offset, file_path_list, load_option_bytes, with_nul}
use Rattle.uefi_path.specs.LoadOptionFlags.{attribute_bits}
use Rattle.uefi_path.specs.declared.load_option_description.LoadOptionDescription.{LoadOptionDescription}
use Rattle.uefi_path.specs.declared.load_option_description.LoadOptionDescription.TheVariants.{Text, Units}
use Rattle.uefi_path.specs.declared.load_option_parts.LoadOptionParts.{LoadOptionParts}

-- All units of the description; those that can be written end with the NUL.
abbrev pub description_units : LoadOptionDescription → List ℕ
description_units (Text text) = text_units text
description_units (Units units) = slice_units units

-- The option has these parts.
pub record HasParts (parts : LoadOptionParts) (option : LoadOption) : Type 0 where
  pub attributes : option.attributes ≡ attribute_bits parts.attributes
  pub description : with_nul option.description ≡ description_units parts.description
  pub file_path_list : file_path_list option ≡ parts.file_path_list.now
  pub optional_data : option.optional_data ≡ parts.optional_data.now

-- The parts are those of some load option.
abbrev pub ArePartsOfOption : LoadOptionParts → Type 0
ArePartsOfOption parts = (option : LoadOption) × IsLoadOption option × HasParts parts option

-- The length of the option with these parts, in bytes.
abbrev pub parts_size : LoadOptionParts → ℕ
parts_size parts = description_offset + 2 * length (description_units parts.description)
    + length parts.file_path_list.now + length parts.optional_data.now

-- The bytes are the option with these parts, and then the old bytes from its end on.
abbrev pub IsOptionPut : LoadOptionParts → List ℕ → List ℕ → Type 0
IsOptionPut parts old new = (option : LoadOption) × IsLoadOption option × HasParts parts option
    × (new ≡ put_prefix (load_option_bytes option) old)

-- The error of a writer into a buffer: no load option has the parts, whatever the buffer; else the buffer is shorter
-- than the option, whose length is told if it is below 2^64.
abbrev pub IsWritingError : LoadOptionParts → Error (Option ℕ) → Type 0
IsWritingError parts error =
    (¬ ArePartsOfOption parts → (error_status error ≡ INVALID_PARAMETER) × (error_data error ≡ None))
    × (ArePartsOfOption parts → (error_status error ≡ BUFFER_TOO_SMALL)
    × SomeIff (error_data error) (parts_size parts < 2 ^ 64) (parts_size parts))

-- The error of an option that is to own its bytes: no load option has the parts; else an allocation failed.
abbrev pub IsBoxingError : LoadOptionParts → {D : Type 0} → Error D → Type 0
IsBoxingError parts error = (¬ ArePartsOfOption parts → error_status error ≡ INVALID_PARAMETER)
    × (ArePartsOfOption parts → error_status error ≡ OUT_OF_RESOURCES)
