-- What contracts see of a node of a path's text.
use Rattle.uefi_path.specs.Node.{Node, end_instance}
use Rattle.uefi_path_text.specs.private.Calls.{call_node}
use Rattle.uefi_path_text.specs.private.FileNames.{file_name_node}
use Rattle.uefi_path_text.specs.declared.parse.text_node.TextNode.{TextNode}
use Rattle.uefi_path_text.specs.declared.parse.text_node.TextNode.TheVariants.{Call, FileName, EndInstance}

abbrev pub text_node : TextNode → Node
text_node (Call call) = call_node call
text_node (FileName name) = file_name_node name
text_node EndInstance = end_instance
