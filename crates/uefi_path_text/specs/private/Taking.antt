-- Taking the nodes of a text one after another.
use Rattle.std.specs.Prelude.{ℕ, ◌≡◌, ◌<◌, ◌≤◌, false, List, ◌∷◌, ◌++◌, length}
use Rattle.uefi_path.specs.Node.{Node}
use Rattle.uefi_path_text.specs.text.NodeText.{is_plain_end}
use Rattle.uefi_path_text.specs.parse.Paths.{IsSlash, IsTextOfNodes, place_after}
use Rattle.uefi_path_text.specs.private.Pieces.{is_cut}
use Rattle.uefi_path_text.specs.declared.parse.place.Place.{Place}

-- The text begins with the text of the node, and with that of no other.
pub record TakesNode (place : Place) (text : List ℕ) (node : Node) (rest : List ℕ) : Type 0 where
  pub short : length node.payload ≤ 0xfffb
  pub no_end : is_plain_end 0xff node ≡ false
  pub shorter : length rest < length text
  pub some : (nodes : List Node) → IsTextOfNodes (place_after node) nodes rest
      → IsTextOfNodes place (node ∷ nodes) text
  pub only : (nodes : List Node) → IsTextOfNodes place nodes text
      → (others : List Node) × (nodes ≡ node ∷ others) × IsTextOfNodes (place_after node) others rest

-- The text is that of no nodes.
abbrev pub IsOfNoNodes : Place → List ℕ → Type 0
IsOfNoNodes place text = (nodes : List Node) → ¬ IsTextOfNodes place nodes text

-- What follows the slash before a node: nothing else does that begins with neither a slash nor a comma.
pub record FollowsSlash (place : Place) (text start : List ℕ) : Type 0 where
  pub some : (slash : List ℕ) × IsSlash place slash × (text ≡ slash ++ start)
  pub only : (slash other : List ℕ) → IsSlash place slash → text ≡ slash ++ other → is_cut other ≡ false → other ≡ start
