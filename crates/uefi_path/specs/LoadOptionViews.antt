-- What contracts see of the view of a load option, and of one that owns its bytes.
use Rattle.std.specs.Prelude.{length, drop}
use Rattle.uefi_base.specs.Views.{slice_units}
use Rattle.uefi_path.specs.declared.boxed_load_option.BoxedLoadOption.{BoxedLoadOption}
use Rattle.uefi_path.specs.declared.load_option.LoadOption.{LoadOption as LoadOptionView}
use Rattle.uefi_path.specs.LoadOption.{LoadOption}
use Rattle.uefi_path.specs.Path.{all_but_last}
use Rattle.uefi_path.specs.LoadOptionFlags.{attribute_bits}
use Rattle.uefi_path.specs.Views.{path_nodes, path_bytes}

-- The load option that the view's bytes are.
abbrev pub load_option_of : LoadOptionView → LoadOption
load_option_of view = record {
  attributes = attribute_bits view.attributes;
  description = all_but_last (slice_units view.description);
  file_path = path_nodes view.file_path;
  other_paths = drop (length (path_bytes view.file_path)) view.file_path_list.now;
  optional_data = view.optional_data.now;
}

-- The load option whose bytes the box owns.
abbrev pub boxed_load_option_of : {A : Type 0} → BoxedLoadOption A → LoadOption
boxed_load_option_of boxed = boxed.option.0
