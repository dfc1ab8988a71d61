-- The text of a node is read as the node, and so that of a path as the path.
use Rattle.std.proofs.Common.{◌≡◌, ◌≤◌, List, ℕ, length, false, refl, arith, ap, ◌∙◌, Option, Some, None, codes}
use Rattle.std.proofs.lemmas.Bool.{cond-false}
use Rattle.uefi_base.specs.LittleEndian.{AreBytes}
use Rattle.uefi_path.specs.Node.{Node, Fits}
use Rattle.uefi_path_text.specs.text.FileName.{file_name_text}
use Rattle.uefi_path_text.specs.text.NodeText.{typed_text, or_generic, is_plain_end}
use Rattle.uefi_path_text.specs.write.Forms.{form_text, or_text}
use Rattle.uefi_path_text.specs.write.Partial.{partial_text}
use Rattle.uefi_path_text.specs.parse.Nodes.{piece_node}
use Rattle.uefi_path_text.specs.Laws.{TextReadsBack}
use Rattle.uefi_path_text.proofs.NodeLaw.{form_text_reads_back}
use Rattle.uefi_path_text.proofs.reading.FilePathReads.{file_name_reads}
use Rattle.uefi_path_text.proofs.reading.GenericReads.{generic_reads}
use Rattle.uefi_path_text.proofs.reading.PathReads.{plain_style, NodeReadsBack, text_reads_back}

-- The text in a form, that of a file's name, and the generic one.
in_form : (node : Node) → Fits node → AreBytes node.payload → is_plain_end 0x01 node ≡ false
    → is_plain_end 0xff node ≡ false → (form name : Option (List ℕ)) → form_text plain_style node ≡ form
    → file_name_text node ≡ name → piece_node (or_generic node (or_text form name)) ≡ Some node
in_form node fits each instance entire None None form name =
    let short : length node.payload ≤ 0xfffb = omega (arith, fits.payload) in
    generic_reads node fits.device_type fits.sub_type short each instance entire
in_form node fits each instance entire None (Some text) form name =
    file_name_reads node text each (omega (arith, fits.payload)) name
in_form node fits each instance entire (Some text) name form is_name =
    form_text_reads_back false node text each (omega (arith, fits.payload)) form

-- A text for reading isn't one for display.
not_partial : (node : Node) → None ≡ partial_text plain_style node
unfolding partial_text
not_partial node = refl

or_none : (text : Option (List ℕ)) → text ≡ or_text text None
or_none None = refl
or_none (Some text) = refl

node_reads_back : NodeReadsBack
node_reads_back node fits each instance entire =
    ap piece_node (cond-false (is_plain_end 0x01 node) (codes ",") (or_generic node (typed_text plain_style node)) instance)
    ∙ in_form node fits each instance entire (form_text plain_style node)
    (or_text (file_name_text node) (partial_text plain_style node)) refl
    (or_none (file_name_text node) ∙ ap (or_text (file_name_text node)) (not_partial node))

pub path_text_reads_back : TextReadsBack
path_text_reads_back = text_reads_back node_reads_back
