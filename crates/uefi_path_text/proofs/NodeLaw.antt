-- The forms are a table, and so their texts are read back.
use Rattle.std.proofs.Common.{◌≡◌, ◌≤◌, Bool, false, true, ℕ, List, length, Some, refl}
use Rattle.uefi_base.specs.LittleEndian.{AreBytes}
use Rattle.uefi_path.specs.Node.{Node}
use Rattle.uefi_path_text.specs.AllForms.{forms}
use Rattle.uefi_path_text.proofs.Table.{is_table}
use Rattle.uefi_path_text.specs.parse.Nodes.{piece_node}
use Rattle.uefi_path_text.specs.parse.Ipv6.{ipv6_in}
use Rattle.uefi_path_text.specs.parse.Values.{bytes_in, number_in, shape_bytes}
use Rattle.uefi_path_text.specs.text.Style.{style}
use Rattle.uefi_path_text.specs.write.Forms.{form_text}
use Rattle.uefi_path_text.proofs.TableLaw.{reads_back}

forms_are_table : is_table forms ≡ true
unfolding bytes_in number_in shape_bytes ipv6_in
forms_are_table = refl

-- The text of a node in a form, not for display alone, is read as the node.
pub form_text_reads_back : (shortcuts : Bool) (node : Node) (text : List ℕ) → AreBytes node.payload
    → length node.payload ≤ 0xfffb → form_text (style false shortcuts) node ≡ Some text → piece_node text ≡ Some node
form_text_reads_back shortcuts node text each short is =
    reads_back forms_are_table shortcuts node text each short is
