-- What contracts see of a file's name.
use Rattle.uefi_path.specs.Node.{Node}
use Rattle.uefi_path_text.specs.parse.Nodes.{name_node}
use Rattle.uefi_path_text.specs.declared.parse.file_name.FileName.{FileName}

abbrev pub file_name_node : FileName → Node
file_name_node file = name_node file.name.now
