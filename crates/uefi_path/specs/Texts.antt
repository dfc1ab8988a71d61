-- The text that Display writes for nodes, paths and errors.
use Rattle.std.specs.Prelude.{ℕ, List, ◌++◌, length, codes}
use Rattle.std.specs.Fmt.{decimal}
use Rattle.uefi_path.specs.declared.error.ByteConversionError.{ByteConversionError}
use Rattle.uefi_path.specs.declared.error.ByteConversionError.TheVariants.{InvalidLength}
use Rattle.uefi_path.specs.declared.node.DevicePathNode.{DevicePathNode}
use Rattle.uefi_path.specs.declared.path.DevicePath.{DevicePath}
use Rattle.uefi_path.specs.Views.{node_of, path_bytes}

-- The length of the node's data.
abbrev pub node_text : DevicePathNode → List ℕ
node_text view = codes "<device path node: " ++ decimal (length (node_of view).payload) ++ codes " bytes>"

-- The length of the whole path.
abbrev pub path_text : DevicePath → List ℕ
path_text path = codes "<device path: " ++ decimal (length (path_bytes path)) ++ codes " bytes>"

abbrev pub error_text : ByteConversionError → List ℕ
error_text InvalidLength = codes "invalid length"
