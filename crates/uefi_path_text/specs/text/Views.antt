-- The texts that views display.
use Rattle.std.specs.Prelude.{ℕ, List, [], ◌∷◌, ◌++◌}
use Rattle.uefi_path.specs.Views.{node_of, nodes_left}
use Rattle.uefi_path_text.specs.text.NodeText.{node_text}
use Rattle.uefi_path_text.specs.text.PathText.{path_text}
use Rattle.uefi_path_text.specs.declared.text.node_text.NodeText.{NodeText}
use Rattle.uefi_path_text.specs.declared.text.path_text.PathText.{PathText}

abbrev pub node_view_text : NodeText → List ℕ
node_view_text view = node_text view.style (node_of view.node)

abbrev pub path_view_text : PathText → List ℕ
path_view_text view = path_text view.style (nodes_left view.nodes ++ (node_of view.end ∷ []))
