-- The text of a path or an instance (UEFI 2.10, 10.6.1): instances with commas between them, of nodes with slashes between
-- them. The node that ends it isn't written, if it has no data.
use Rattle.std.specs.Prelude.{ℕ, ◌||◌, Bool, true, not, List, [], ◌∷◌, ◌++◌, codes, if◌then◌else◌}
use Rattle.uefi_path.specs.Node.{Node}
use Rattle.uefi_path_text.specs.text.NodeText.{is_plain_end, node_text}
use Rattle.uefi_path_text.specs.declared.text.style.Style.{Style}

-- A slash comes before a node, unless it is the first of its instance, or the end of one.
abbrev pub separator : Bool → Node → List ℕ
separator is_first node = if is_first || is_plain_end 0x01 node then [] else codes "/"

-- The texts of nodes, of which the first is that of an instance, or isn't.
unfoldable pub nodes_text : Style → Bool → List Node → List ℕ
nodes_text style is_first [] = []
nodes_text style is_first (node ∷ nodes) =
    separator is_first node ++ (node_text style node ++ nodes_text style (is_plain_end 0x01 node) nodes)

-- The node that ends a path or an instance has a text only if it has data, or no known subtype.
abbrev pub is_shown_end : Node → Bool
is_shown_end node = not (is_plain_end 0x01 node || is_plain_end 0xff node)

-- The nodes that have a text.
unfoldable pub shown : List Node → List Node
shown [] = []
shown (node ∷ []) = if is_shown_end node then node ∷ [] else []
shown (node ∷ next ∷ nodes) = node ∷ shown (next ∷ nodes)

-- The text of the nodes of a path or of an instance.
abbrev pub path_text : Style → List Node → List ℕ
path_text style nodes = nodes_text style true (shown nodes)
