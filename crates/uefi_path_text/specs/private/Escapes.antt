-- What contracts see of the units of a text for display.
use Rattle.std.specs.Prelude.{ℕ, List}
use Rattle.uefi_base.specs.Utf16.{lossy_characters}
use Rattle.uefi_base.specs.Views.{slice_units}
use Rattle.uefi_path_text.specs.write.Partial.{escaped_characters}
use Rattle.uefi_path_text.specs.declared.text.escape.EscapedUnits.{EscapedUnits}

abbrev pub units_shown : EscapedUnits → List ℕ
units_shown escaped = slice_units escaped.0

abbrev pub escapes_shown : EscapedUnits → List ℕ
escapes_shown escaped = escaped_characters (lossy_characters (units_shown escaped))
