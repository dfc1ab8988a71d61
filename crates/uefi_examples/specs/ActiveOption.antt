-- A load option that is written with the flag ACTIVE.
use Rattle.std.specs.Prelude.{ℕ, ◌≡◌, List}
use Rattle.std.specs.Int.RustNames.{bit_or}
use Rattle.uefi_base.specs.Buffer.{put_prefix}
use Rattle.uefi_path.specs.LoadOption.{LoadOption, IsLoadOption, load_option_bytes}

-- The option with the flag, of value 1, and all else as it is.
abbrev pub active : LoadOption → LoadOption
active option = record {
  attributes = bit_or option.attributes 1;
  description = option.description;
  file_path = option.file_path;
  other_paths = option.other_paths;
  optional_data = option.optional_data;
}

-- The bytes are a load option, and a buffer has the active one's bytes, and then the old ones.
abbrev pub IsPutActive : List ℕ → List ℕ → List ℕ → Type 0
IsPutActive bytes old new = (option : LoadOption) × IsLoadOption option × (bytes ≡ load_option_bytes option)
    × (new ≡ put_prefix (load_option_bytes (active option)) old)
