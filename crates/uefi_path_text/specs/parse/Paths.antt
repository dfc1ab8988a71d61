-- The path whose text this is (UEFI 2.10, 10.6.1).
use Rattle.std.specs.Prelude.{ℕ, ◌≡◌, ◌⊎◌, Bool, List, [], ◌∷◌, ◌++◌, codes, Some, MatchBool, if◌then◌else◌}
use Rattle.uefi_path.specs.Node.{Node}
use Rattle.uefi_path.specs.Path.{IsPath}
use Rattle.uefi_path_text.specs.text.NodeText.{is_plain_end}
use Rattle.uefi_path_text.specs.text.PathText.{shown}
use Rattle.uefi_path_text.specs.parse.Nodes.{piece_node}
use Rattle.uefi_path_text.specs.declared.parse.place.Place.{Place}
use Rattle.uefi_path_text.specs.declared.parse.place.Place.TheVariants.{Start, AfterComma, AfterNode}

-- A slash is between two nodes of an instance. After a comma there may be one, as EDK II writes it.
abbrev pub IsSlash : Place → List ℕ → Type 0
IsSlash Start slash = slash ≡ []
IsSlash AfterComma slash = (slash ≡ []) ⊎ (slash ≡ codes "/")
IsSlash AfterNode slash = slash ≡ codes "/"

-- The text of a node: a comma is that of the end of an instance, and a piece, after the slash, that of another node.
abbrev pub NodeTextOf : Bool → Place → Node → List ℕ → Type 0
NodeTextOf is_end place node text = MatchBool is_end (text ≡ codes ",")
    ((slash : List ℕ) × (piece : List ℕ) × (text ≡ slash ++ piece) × IsSlash place slash × (piece_node piece ≡ Some node))

abbrev pub IsTextOfNode : Place → Node → List ℕ → Type 0
IsTextOfNode place node text = NodeTextOf (is_plain_end 0x01 node) place node text

abbrev pub place_after : Node → Place
place_after node = if is_plain_end 0x01 node then AfterComma else AfterNode

-- A text is that of nodes: their texts in order.
abbrev pub IsTextOfNodes : Place → List Node → List ℕ → Type 0
IsTextOfNodes place [] text = text ≡ []
IsTextOfNodes place (node ∷ nodes) text =
    (front : List ℕ) × (rest : List ℕ) × (text ≡ front ++ rest)
    × IsTextOfNode place node front × IsTextOfNodes (place_after node) nodes rest

-- A text is that of a path. The node that ends the path isn't written, if it has no data.
pub record IsTextOf (nodes : List Node) (text : List ℕ) : Type 0 where
  pub is_path : IsPath nodes
  pub is_written : IsTextOfNodes Start (shown nodes) text
