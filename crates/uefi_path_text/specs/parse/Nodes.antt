-- The node whose text a piece of a text is (UEFI 2.10, 10.6.1).
use Rattle.std.specs.Prelude.{ℕ, ◌+◌, ◌==◌, ◌&&◌, Bool, not, nat_le, List, [], ◌∷◌, ◌++◌, length, filter, Option, Some, None, if◌then◌else◌}
use Rattle.std.specs.List.{list_all, flat_map, before_first, after_first}
use Rattle.std.specs.Str.{bytes_eq, chars}
use Rattle.std.specs.Char.Escape.{encode_utf16}
use Rattle.uefi_base.specs.Unaligned.{unit_bytes}
use Rattle.uefi_path.specs.Node.{Node}
use Rattle.uefi_path_text.specs.text.FileName.{reads_as_node, is_name_character}
use Rattle.uefi_path_text.specs.text.NodeText.{is_plain_end}
use Rattle.uefi_path_text.specs.parse.Parts.{given}
use Rattle.uefi_path_text.specs.form.NodeForm.{NodeForm}
use Rattle.uefi_path_text.specs.parse.Arguments.{values_in, form_node, texts_of}
use Rattle.uefi_path_text.specs.AllForms.{forms}

-- A node that a text can be of: it isn't too long, and no plain END node, which a path writes otherwise.
abbrev pub is_written : Node → Bool
is_written node = nat_le (length node.payload) 0xfffb && not (is_plain_end 0x01 node) && not (is_plain_end 0xff node)

abbrev pub if_written : Node → Option Node
if_written node = given (is_written node) node

-- The node of a form and the texts of its arguments, if each is one of its kind.
abbrev pub node_of_values : NodeForm → Option (List (List ℕ)) → Option Node
node_of_values form None = None
node_of_values form (Some values) = if_written (form_node form values)

abbrev pub node_in : NodeForm → List (List ℕ) → Option Node
node_in form texts = node_of_values form (values_in form.arguments texts)

-- The node by the first form that the texts fit.
abbrev pub or_else : {A : Type 0} → Option A → Option A → Option A
or_else None other = other
or_else (Some value) other = Some value

abbrev pub first_node : List NodeForm → List (List ℕ) → Option Node
first_node [] texts = None
first_node (form ∷ forms) texts = or_else (node_in form texts) (first_node forms texts)

abbrev pub forms_named : List ℕ → List NodeForm
forms_named name = filter (λ form. bytes_eq form.name name) forms

unfoldable pub call_node : List ℕ → List ℕ → Option Node
call_node name arguments = first_node (forms_named name) (texts_of arguments)

-- The name before the parenthesis, what follows it, and the arguments up to the parenthesis that closes.
abbrev pub name_of : List ℕ → List ℕ
name_of piece = before_first (λ c. c == 0x28) piece

abbrev pub after_name : List ℕ → List ℕ
after_name piece = after_first (λ c. c == 0x28) piece

abbrev pub arguments_of : List ℕ → List ℕ
arguments_of piece = before_first (λ c. c == 0x29) (after_name piece)

-- The parenthesis that closes is the last character.
abbrev pub is_closed : List ℕ → Bool
is_closed piece = length (after_name piece) == length (arguments_of piece) + 1

-- A file's name: units of 16 bits, and a NUL.
abbrev pub name_node : List ℕ → Node
name_node piece = record {
  device_type = 4;
  sub_type = 4;
  payload = unit_bytes (flat_map encode_utf16 (chars piece) ++ 0 ∷ []);
}

-- A byte of a name: neither `/` nor `,`, one of which ends it, also where the bytes aren't text in UTF-8.
abbrev pub is_plain_byte : ℕ → Bool
is_plain_byte byte = not (byte == 0x2f) && not (byte == 0x2c)

-- One byte or more, with characters that a name may have.
abbrev pub is_file_name : List ℕ → Bool
is_file_name piece =
    not (length piece == 0) && list_all is_plain_byte piece && list_all is_name_character (chars piece)

-- The node of a piece: `NAME(ARGUMENTS)`, or a file's name.
unfoldable pub piece_node : List ℕ → Option Node
piece_node piece =
    if reads_as_node piece
    then (if is_closed piece then call_node (name_of piece) (arguments_of piece) else None)
    else if is_file_name piece then if_written (name_node piece)
    else None
