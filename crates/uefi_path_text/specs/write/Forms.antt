-- The text of a node in a form (UEFI 2.10, 10.6.1.6).
use Rattle.std.specs.Prelude.{ℕ, zero, suc, ◌/◌, ◌==◌, ◌&&◌, ◌||◌, Bool, true, false, not, List, [], ◌∷◌, ◌++◌, codes, length, take, drop}
use Rattle.std.specs.Prelude.{Option, Some, None, if◌then◌else◌}
use Rattle.std.specs.Str.{bytes_eq}
use Rattle.uefi_path.specs.Node.{Node}
use Rattle.uefi_path_text.specs.form.NodeForm.{NodeForm, Parameter, Source, known, stated, Arguments, listed, repeated}
use Rattle.uefi_path_text.specs.AllForms.{forms_in, sections}
use Rattle.uefi_path_text.specs.parse.Arguments.{parts_data}
use Rattle.uefi_path_text.specs.write.Values.{value_text, can_show}
use Rattle.uefi_path_text.specs.write.Fields.{value_size, values_from, values_found}
use Rattle.uefi_path_text.specs.declared.text.style.Style.{Style}
use Rattle.uefi_path_text.specs.declared.forms.Section.{Section}
use Rattle.uefi_path_text.specs.declared.forms.Section.TheVariants.{Display}
use Rattle.uefi_path_text.specs.declared.form.argument.Argument.{Argument}
use Rattle.uefi_path_text.specs.declared.form.argument.Argument.TheVariants.{Bytes}

-- A last argument of no bytes is left out.
abbrev pub is_left_out : Argument → List ℕ → Bool
is_left_out (Bytes most) value = length value == 0
is_left_out _ value = false

abbrev pub all_shown : List Parameter → List (List ℕ) → Bool
all_shown [] values = true
all_shown (parameter ∷ parameters) [] = false
all_shown (parameter ∷ parameters) (value ∷ values) = can_show parameter.argument value && all_shown parameters values

abbrev pub shown_texts : List Parameter → List (List ℕ) → List (List ℕ)
shown_texts [] values = []
shown_texts (parameter ∷ parameters) [] = []
shown_texts (parameter ∷ parameters) (value ∷ values) =
    if length parameters == 0 && is_left_out parameter.argument value then []
    else value_text parameter.argument value ∷ shown_texts parameters values

-- The texts with a mark before each, and `)`.
abbrev pub marked : List ℕ → List (List ℕ) → List ℕ
marked mark [] = codes ")"
marked mark (text ∷ texts) = mark ++ (text ++ marked (codes ",") texts)

-- The values of arguments that are repeated: as many as there are bytes for.
abbrev pub repeated_count : Argument → List ℕ → ℕ
repeated_count kind rest = if value_size kind rest == 0 then 0 else length rest / value_size kind rest

abbrev pub are_values : Argument → ℕ → List ℕ → Bool
are_values kind zero rest = length rest == 0
are_values kind (suc count) rest =
    can_show kind (take (value_size kind rest) rest) && are_values kind count (drop (value_size kind rest) rest)

abbrev pub texts_from : Argument → ℕ → List ℕ → List (List ℕ)
texts_from kind zero rest = []
texts_from kind (suc count) rest =
    value_text kind (take (value_size kind rest) rest) ∷ texts_from kind count (drop (value_size kind rest) rest)

-- The form has all of the node: its type, and the data are the parts of the values that were found, which have texts.
abbrev pub is_source : Source → ℕ → Bool
is_source (known number) n = number == n
is_source (stated index) n = false

abbrev pub are_repeated : Argument → List ℕ → Bool
are_repeated kind rest = not (repeated_count kind rest == 0) && are_values kind (repeated_count kind rest) rest

abbrev pub has_data : Arguments → List ℕ → Bool
has_data (listed parameters parts) d =
    let values = values_found parameters parts d in
    bytes_eq (parts_data values parts) d && all_shown parameters values
has_data (repeated prefix kind) d =
    bytes_eq (take (length prefix) d) prefix && are_repeated kind (drop (length prefix) d)

abbrev pub has_node : NodeForm → Node → Bool
has_node form node =
    is_source form.device_type node.device_type && is_source form.sub_type node.sub_type
    && has_data form.arguments node.payload

-- The texts of the arguments; for display those that the form displays.
abbrev pub argument_texts : Arguments → List ℕ → List (List ℕ)
argument_texts (listed parameters parts) d = shown_texts parameters (values_found parameters parts d)
argument_texts (repeated prefix kind) d =
    texts_from kind (repeated_count kind (drop (length prefix) d)) (drop (length prefix) d)

abbrev pub displayed_texts : NodeForm → Arguments → List ℕ → List (List ℕ)
displayed_texts form (listed parameters parts) d =
    let shown = take form.displayed (drop form.first_displayed parameters) in
    shown_texts shown (values_from parameters parts shown form.first_displayed d)
displayed_texts form (repeated prefix kind) d = argument_texts (repeated prefix kind) d

abbrev pub texts_in : NodeForm → Style → List ℕ → List (List ℕ)
texts_in form style d =
    if style.display_only then displayed_texts form form.arguments d else argument_texts form.arguments d

-- The form is one of the style, and has all of the node.
abbrev pub is_form_of : NodeForm → Style → Node → Bool
is_form_of form style node = (not form.is_shortcut || style.allow_shortcuts) && has_node form node

abbrev pub text_in_form : NodeForm → Style → List ℕ → List ℕ
text_in_form form style d = form.name ++ (codes "(" ++ marked [] (texts_in form style d))

-- The text in the first of the forms that has all of the node.
abbrev pub text_in_forms : List NodeForm → Style → Node → Option (List ℕ)
text_in_forms [] style node = None
text_in_forms (form ∷ forms) style node =
    if is_form_of form style node then Some (text_in_form form style node.payload) else text_in_forms forms style node

abbrev pub or_text : Option (List ℕ) → Option (List ℕ) → Option (List ℕ)
or_text None other = other
or_text (Some text) other = Some text

abbrev pub text_in_sections : List Section → Style → Node → Option (List ℕ)
text_in_sections [] style node = None
text_in_sections (section ∷ more) style node =
    or_text (text_in_forms (forms_in section) style node) (text_in_sections more style node)

-- The text of a node by the forms that are for display alone, and by those in which nodes are read.
unfoldable pub displayed_text : Style → Node → Option (List ℕ)
displayed_text style node = if style.display_only then text_in_forms (forms_in Display) style node else None

unfoldable pub read_form_text : Style → Node → Option (List ℕ)
read_form_text style node = text_in_sections sections style node

abbrev pub form_text : Style → Node → Option (List ℕ)
form_text style node = or_text (displayed_text style node) (read_form_text style node)
