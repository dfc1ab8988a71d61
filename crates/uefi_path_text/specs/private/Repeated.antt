-- What contracts see of arguments that are all of a kind.
use Rattle.std.specs.Prelude.{ℕ, List, [], Option, is_some, IsTrue}
use Rattle.std.specs.Borrow.{Bor}
use Rattle.std.specs.Option.{unwrap_or}
use Rattle.uefi_path_text.specs.parse.Arguments.{repeated_values}
use Rattle.uefi_path_text.specs.private.FromText.{rest_parts}
use Rattle.uefi_path_text.specs.declared.form.argument.Argument.{Argument}

-- The values, if all texts are of the kind.
abbrev pub read_repeated : Argument → Option (Bor (List ℕ)) → Option (List (List ℕ))
read_repeated kind texts = repeated_values kind (rest_parts 0x2c texts)

abbrev pub AreOfKind : Argument → Option (Bor (List ℕ)) → Type 0
AreOfKind kind texts = IsTrue (is_some (read_repeated kind texts))

abbrev pub repeated_of : Argument → Option (Bor (List ℕ)) → List (List ℕ)
repeated_of kind texts = unwrap_or (read_repeated kind texts) []
