-- The text of a node (UEFI 2.10, 10.6.1): in the first form that has all of it; else a file's path by its name; else, for
-- display, what a form has of it; and else in the generic form.
use Rattle.std.specs.Prelude.{ℕ, ◌==◌, ◌&&◌, Bool, length, List, [], ◌∷◌, codes, Option, Some, None, if◌then◌else◌}
use Rattle.std.specs.Fmt.{decimal}
use Rattle.uefi_path.specs.Node.{Node}
use Rattle.uefi_path_text.specs.text.Arguments.{call, hex_bytes}
use Rattle.uefi_path_text.specs.text.FileName.{file_name_text}
use Rattle.uefi_path_text.specs.write.Forms.{form_text, or_text}
use Rattle.uefi_path_text.specs.write.Partial.{partial_text}
use Rattle.uefi_path_text.specs.declared.text.style.Style.{Style}

-- `Path(TYPE,SUBTYPE,DATA)`, or `Path(TYPE,SUBTYPE)` if there are no data.
abbrev pub data_argument : List ℕ → List (List ℕ)
data_argument [] = []
data_argument (b ∷ bytes) = hex_bytes (b ∷ bytes) ∷ []

unfoldable pub generic_text : Node → List ℕ
generic_text node = call (codes "Path") (decimal node.device_type ∷ decimal node.sub_type ∷ data_argument node.payload)

-- A node of the type END that has this subtype and no data.
abbrev pub is_plain_end : ℕ → Node → Bool
is_plain_end sub_type node = node.device_type == 0x7f && node.sub_type == sub_type && length node.payload == 0

-- The text in a form or of a file's name, if there is one, and else, but for what display shows of it, the generic one.
abbrev pub typed_text : Style → Node → Option (List ℕ)
typed_text style node = or_text (form_text style node) (or_text (file_name_text node) (partial_text style node))

abbrev pub or_generic : Node → Option (List ℕ) → List ℕ
or_generic node None = generic_text node
or_generic node (Some text) = text

-- The text of a node: the end of an instance is a comma.
abbrev pub node_text : Style → Node → List ℕ
node_text style node = if is_plain_end 0x01 node then codes "," else or_generic node (typed_text style node)
