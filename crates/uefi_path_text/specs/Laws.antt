-- Laws of texts of paths.
use Rattle.std.specs.Prelude.{◌≡◌, ℕ, List, false}
use Rattle.std.specs.List.{AllByRecursion}
use Rattle.uefi_base.specs.LittleEndian.{AreBytes}
use Rattle.uefi_path.specs.Node.{Node}
use Rattle.uefi_path.specs.Path.{IsPath}
use Rattle.uefi_path_text.specs.text.PathText.{path_text}
use Rattle.uefi_path_text.specs.text.Style.{style}
use Rattle.uefi_path_text.specs.parse.Paths.{IsTextOf}

-- The text of a path, for reading, is that of the path.
abbrev pub TextReadsBack : Type 0
TextReadsBack = (nodes : List Node) → IsPath nodes → AllByRecursion (λ node. AreBytes node.payload) nodes
    → IsTextOf nodes (path_text (style false false) nodes)

-- A text is that of one path.
abbrev pub OnePathOfText : Type 0
OnePathOfText = (a b : List Node) (text : List ℕ) → IsTextOf a text → IsTextOf b text → a ≡ b
