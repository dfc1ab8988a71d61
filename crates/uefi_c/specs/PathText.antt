-- Texts of paths and nodes (UEFI 2.10, 10.6), as calls write and read them.
use Rattle.std.specs.Prelude.{ℕ, ◌<◌, ◌==◌, Bool, List, [], ◌∷◌, not, bit_and}
use Rattle.uefi_path.specs.Node.{Node}
use Rattle.uefi_path_text.specs.parse.Errors.{NeedsLength}
use Rattle.uefi_path_text.specs.text.NodeText.{node_text}
use Rattle.uefi_path_text.specs.text.PathText.{path_text}
use Rattle.uefi_path_text.specs.text.Style.{style}
use Rattle.uefi_c.specs.Status.{missing_text, too_long, unexpected_character, unknown_node}

-- The flags (10.6.2): the text is for display alone; nodes of some vendors have forms of their own.
abbrev pub display_only_flag : ℕ
display_only_flag = 1

abbrev pub allow_shortcuts_flag : ℕ
allow_shortcuts_flag = 2

abbrev pub has_flag : ℕ → ℕ → Bool
has_flag flags flag = not (bit_and flags flag == 0)

-- The text of a path, and that of a node, under the flags.
abbrev pub text_of_path : ℕ → List Node → List ℕ
text_of_path flags nodes = path_text (style (has_flag flags display_only_flag) (has_flag flags allow_shortcuts_flag)) nodes

abbrev pub text_of_node : ℕ → Node → List ℕ
text_of_node flags node = node_text (style (has_flag flags display_only_flag) (has_flag flags allow_shortcuts_flag)) node

-- The statuses of a text that is that of no path: a fault at an offset.
abbrev pub text_faults : List ℕ
text_faults = unknown_node ∷ unexpected_character ∷ missing_text ∷ too_long ∷ []

-- The text is that of a path, which needs so many bytes, more than the buffer has.
abbrev pub NeedsMore : List ℕ → ℕ → ℕ → Type 0
NeedsMore text room needed = ((nodes : List Node) × NeedsLength text nodes needed) × (room < needed)
