-- The text for display of a node that no form has all of (UEFI 2.10, 10.6.2): that of a form for its type, or of a file's
-- name, without what these lack, and with each character escaped that they can't have.
use Rattle.std.specs.Prelude.{ℕ, zero, suc, ◌-◌, ◌%◌, ◌==◌, ◌&&◌, ◌||◌, Bool, true, false, not, nat_le, nat_lt, List, [], ◌∷◌, ◌++◌, codes, length, take, drop, flat_map, encode_utf8_all}
use Rattle.std.specs.Prelude.{Option, Some, None, if◌then◌else◌}
use Rattle.std.specs.Fmt.{digits}
use Rattle.std.specs.Str.{bytes_eq}
use Rattle.uefi_base.specs.Unaligned.{units_of}
use Rattle.uefi_base.specs.Utf16.{lossy_characters}
use Rattle.uefi_path.specs.Node.{Node}
use Rattle.uefi_path_text.specs.form.NodeForm.{NodeForm, Parameter, Part, bytes, Arguments, listed, repeated}
use Rattle.uefi_path_text.specs.AllForms.{forms_in, sections}
use Rattle.uefi_path_text.specs.parse.Values.{size_bytes}
use Rattle.uefi_path_text.specs.text.Arguments.{hex_byte, ipv4_address}
use Rattle.uefi_path_text.specs.text.FileName.{is_control}
use Rattle.uefi_path_text.specs.write.Fields.{part_size, value_size, values_from, values_found}
use Rattle.uefi_path_text.specs.write.Forms.{is_left_out, is_source, marked, or_text, repeated_count}
use Rattle.uefi_path_text.specs.write.Values.{can_show, is_found, low_number, quoted, value_text, word_for, word_text}
use Rattle.uefi_path_text.specs.declared.text.style.Style.{Style}
use Rattle.uefi_path_text.specs.declared.forms.Section.{Section}
use Rattle.uefi_path_text.specs.declared.form.words.Words.{Words}
use Rattle.uefi_path_text.specs.declared.form.words.Words.TheVariants.{NoTopology, Zero}
use Rattle.uefi_path_text.specs.declared.form.argument.Argument.{Argument}
use Rattle.uefi_path_text.specs.declared.form.argument.Argument.TheVariants.{Word, Ipv4Server, Text, Name, Quoted}

-- A byte of a text is escaped unless it is a printable character of ASCII.
abbrev pub escaped_byte : ℕ → List ℕ
escaped_byte b = if nat_le 0x20 b && nat_lt b 0x7f then b ∷ [] else codes "\\x" ++ hex_byte b

unfoldable pub escaped_bytes : List ℕ → List ℕ
escaped_bytes text = flat_map escaped_byte text

-- A control character of a name is escaped. The name is in UTF-16, up to the first NUL or the end.
abbrev pub escaped_character : ℕ → List ℕ
escaped_character c =
    if is_control c then codes "\\u{" ++ (digits 16 true c ++ codes "}") else encode_utf8_all (c ∷ [])

abbrev pub whole_units : List ℕ → List ℕ
whole_units d = units_of (take (length d - length d % 2) d)

unfoldable pub escaped_characters : List ℕ → List ℕ
escaped_characters name = flat_map escaped_character name

abbrev pub escaped_units : List ℕ → List ℕ
escaped_units d = escaped_characters (lossy_characters (whole_units d))

-- A word by which a type's form is chosen.
abbrev pub chooses_form : Words → Bool
chooses_form NoTopology = true
chooses_form Zero = true
chooses_form _ = false

-- The value may be one of a form with this argument, and its text.
abbrev pub may_be : Argument → List ℕ → Bool
may_be (Word vocabulary size) value =
    length value == size_bytes size
    && (not (chooses_form vocabulary) || is_found (word_for vocabulary (low_number value)))
may_be Ipv4Server value = length value == 16
may_be (Text most) value = true
may_be (Name most) value = not (length value == 0)
may_be Quoted value = true
may_be kind value = can_show kind value

abbrev pub if_so : Bool → List ℕ → List ℕ
if_so test text = if test then text else []

abbrev pub partial_value : Argument → List ℕ → List ℕ
partial_value (Word vocabulary size) value = if_so (length value == size_bytes size) (word_text vocabulary value)
partial_value Ipv4Server value = if_so (length value == 16) (ipv4_address value)
partial_value (Text most) value = escaped_bytes value
partial_value (Name most) value = escaped_bytes value
partial_value Quoted value = quoted (escaped_units value)
partial_value kind value = if_so (can_show kind value) (value_text kind value)

-- The data begin with the parts, whatever the reserved bytes are.
abbrev pub is_next : Option ℕ → Bool
is_next (Some zero) = true
is_next _ = false

abbrev pub one_less : Option ℕ → Option ℕ
one_less (Some (suc index)) = Some index
one_less _ = None

abbrev pub has_bytes : Part → List ℕ → Bool
has_bytes (bytes b) rest = bytes_eq (take (length b) rest) b
has_bytes _ rest = true

abbrev pub begin_with : List Parameter → List Part → Option ℕ → List ℕ → Bool
begin_with parameters [] reserved rest = true
begin_with parameters (part ∷ parts) reserved rest =
    nat_le (part_size parameters part rest) (length rest) && (is_next reserved || has_bytes part rest)
    && begin_with parameters parts (one_less reserved) (drop (part_size parameters part rest) rest)

abbrev pub may_be_all : List Parameter → List (List ℕ) → Bool
may_be_all [] values = true
may_be_all (parameter ∷ parameters) [] = false
may_be_all (parameter ∷ parameters) (value ∷ values) = may_be parameter.argument value && may_be_all parameters values

abbrev pub may_have : Option ℕ → Arguments → List ℕ → Bool
may_have reserved (listed parameters parts) d =
    begin_with parameters parts reserved d && may_be_all parameters (values_found parameters parts d)
may_have reserved (repeated prefix kind) d = bytes_eq (take (length prefix) d) prefix

abbrev pub may_have_node : NodeForm → Style → Node → Bool
may_have_node form style node =
    (not form.is_shortcut || style.allow_shortcuts)
    && is_source form.device_type node.device_type && is_source form.sub_type node.sub_type
    && may_have form.reserved form.arguments node.payload

-- The texts of the arguments that a form displays.
abbrev pub partial_values : List Parameter → List (List ℕ) → List (List ℕ)
partial_values [] values = []
partial_values (parameter ∷ parameters) [] = []
partial_values (parameter ∷ parameters) (value ∷ values) =
    if length parameters == 0 && is_left_out parameter.argument value then []
    else partial_value parameter.argument value ∷ partial_values parameters values

abbrev pub partial_from : Argument → ℕ → List ℕ → List (List ℕ)
partial_from kind zero rest = []
partial_from kind (suc count) rest =
    partial_value kind (take (value_size kind rest) rest) ∷ partial_from kind count (drop (value_size kind rest) rest)

abbrev pub partial_texts : NodeForm → Arguments → List ℕ → List (List ℕ)
partial_texts form (listed parameters parts) d =
    let shown = take form.displayed (drop form.first_displayed parameters) in
    partial_values shown (values_from parameters parts shown form.first_displayed d)
partial_texts form (repeated prefix kind) d =
    partial_from kind (repeated_count kind (drop (length prefix) d)) (drop (length prefix) d)

abbrev pub partial_form_text : NodeForm → List ℕ → List ℕ
partial_form_text form d = form.name ++ (codes "(" ++ marked [] (partial_texts form form.arguments d))

-- The text by the first of the forms that may have the node.
abbrev pub partial_in_forms : List NodeForm → Style → Node → Option (List ℕ)
partial_in_forms [] style node = None
partial_in_forms (form ∷ forms) style node =
    if may_have_node form style node then Some (partial_form_text form node.payload)
    else partial_in_forms forms style node

abbrev pub partial_in_sections : List Section → Style → Node → Option (List ℕ)
partial_in_sections [] style node = None
partial_in_sections (section ∷ more) style node =
    or_text (partial_in_forms (forms_in section) style node) (partial_in_sections more style node)

unfoldable pub partial_form : Style → Node → Option (List ℕ)
partial_form style node = partial_in_sections sections style node

-- The name of a file, if it isn't empty.
unfoldable pub partial_name : Node → Option (List ℕ)
partial_name node =
    if node.device_type == 4 && node.sub_type == 4 && not (length (lossy_characters (whole_units node.payload)) == 0)
    then Some (escaped_units node.payload) else None

unfoldable pub partial_text : Style → Node → Option (List ℕ)
partial_text style node =
    if style.display_only then or_text (partial_form style node) (partial_name node) else None
