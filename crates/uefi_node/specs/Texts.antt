-- The text that Display writes for errors.
use Rattle.std.specs.Prelude.{ℕ, List, codes}
use Rattle.uefi_node.specs.declared.error.NodeConversionError.{NodeConversionError}
use Rattle.uefi_node.specs.declared.error.NodeConversionError.TheVariants.{DifferentType, UnsupportedType, Length, Form}

abbrev pub error_text : NodeConversionError → List ℕ
error_text DifferentType = codes "a node of another type"
error_text UnsupportedType = codes "a node of an unknown type"
error_text Length = codes "a length that no node of the type has"
error_text Form = codes "data that no node of the type has"
