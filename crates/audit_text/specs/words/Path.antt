-- Device paths as they are shown.
use Rattle.std.specs.Prelude.{ℕ, List, false}
use Rattle.uefi_path_text.specs.text.PathText as paths
use Rattle.uefi_path_text.specs.text.Style.{style}
use Rattle.uefi_path.specs.Node.{Node}

-- The text of a path by its nodes (UEFI 2.10, 10.6): all of it, without shortcuts.
abbrev pub path_text : List Node → List ℕ
path_text nodes = paths.path_text (style false false) nodes
