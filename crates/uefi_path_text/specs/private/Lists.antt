-- What contracts see of the arguments of a text that are listed.
use Rattle.std.specs.Prelude.{ℕ, List, [], Option, map, is_some, IsTrue}
use Rattle.std.specs.Option.{unwrap_or}
use Rattle.uefi_path_text.specs.parse.Arguments.{listed_values}
use Rattle.uefi_path_text.specs.private.FromText.{rest_parts}
use Rattle.uefi_path_text.specs.private.FormViews.{parameter_of}
use Rattle.uefi_path_text.specs.declared.parse.data.Listed.{Listed}

-- The values, if there are all.
abbrev pub read_list : Listed → Option (List (List ℕ))
read_list list = listed_values (map parameter_of list.parameters.now) (rest_parts 0x2c list.texts)

abbrev pub IsListed : Listed → Type 0
IsListed list = IsTrue (is_some (read_list list))

abbrev pub listed_of : Listed → List (List ℕ)
listed_of list = unwrap_or (read_list list) []
