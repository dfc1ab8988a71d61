-- What contracts see of the characters of a name.
use Rattle.std.specs.Prelude.{ℕ, List, Option, take}
use Rattle.std.specs.Char.Utf16.{utf16_chars}
use Rattle.uefi_base.specs.Views.{units_left}
use Rattle.uefi_path_text.specs.declared.text.file_name.NameCharacters.{NameCharacters}

-- The units that are left.
abbrev pub name_units : NameCharacters → List ℕ
name_units name = take name.count (units_left name.units)

-- The characters that are left, with none for a surrogate that has no partner.
abbrev pub characters_left : NameCharacters → List (Option ℕ)
characters_left name = utf16_chars (name_units name)
