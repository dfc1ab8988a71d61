-- The forms of nodes as text, and the layouts of the types whose nodes they make.
use Rattle.std.specs.Prelude.{ℕ, ◌+◌, ◌-◌, ◌&&◌, Bool, true, false, nat_le, List, [], ◌∷◌, ◌++◌, length, Option, Some, None, IsTrue}
use Rattle.std.specs.List.{list_all}
use Rattle.uefi_node.specs.Layout.{is_rest_length}
use Rattle.uefi_node.specs.NodeEnum.{NodeType, find_type}
use Rattle.uefi_path_text.specs.form.NodeForm.{NodeForm, Parameter, Part, Source, known, stated, Arguments, listed, repeated}
use Rattle.uefi_path_text.specs.write.Fields.{part_size, value_size}
use Rattle.uefi_path_text.specs.AllForms.{forms}
use Rattle.uefi_path_text.specs.forms.Display.{display_forms}

-- How many bytes the parts have, where a text has these bytes.
abbrev pub parts_size : List Parameter → List Part → List ℕ → ℕ
parts_size parameters [] text = 0
parts_size parameters (part ∷ parts) text = part_size parameters part text + parts_size parameters parts text

abbrev pub arguments_size : Arguments → List ℕ → ℕ
arguments_size (listed parameters parts) text = parts_size parameters parts text
arguments_size (repeated prefix kind) text = length prefix + value_size kind text

-- Data of so many bytes have a length of the type.
abbrev pub has_length : NodeType → ℕ → Bool
has_length type n = nat_le type.size n && is_rest_length type.rest (n - type.size)

-- The data of the arguments have a length of the type, where texts are empty, and where they have two bytes.
abbrev pub fits_type : Option NodeType → Arguments → Bool
fits_type None arguments = false
fits_type (Some type) arguments =
    has_length type (arguments_size arguments []) && has_length type (arguments_size arguments (1 ∷ 1 ∷ []))

-- They fit the type that has these numbers. A form whose subtype is an argument makes nodes of any length.
abbrev pub fits_numbers : Source → Source → Arguments → Bool
fits_numbers (known device_type) (known sub_type) arguments = fits_type (find_type device_type sub_type) arguments
fits_numbers source (stated index) arguments = true
fits_numbers (stated index) (known sub_type) arguments = false

abbrev pub fits : NodeForm → Bool
fits form = fits_numbers form.device_type form.sub_type form.arguments

-- Each form fits.
abbrev pub FormsFit : Type 0
FormsFit = IsTrue (list_all fits (forms ++ display_forms))
