-- What contracts see of views, owned values and iterators.
use Rattle.std.specs.Prelude.{ℕ, List}
use Rattle.uefi_path.specs.declared.header.DevicePathHeader.{DevicePathHeader}
use Rattle.uefi_path.specs.declared.node.DevicePathNode.{DevicePathNode}
use Rattle.uefi_path.specs.declared.path.DevicePath.{DevicePath}
use Rattle.uefi_path.specs.declared.instance.DevicePathInstance.{DevicePathInstance}
use Rattle.uefi_path.specs.declared.boxed.BoxedDevicePath.{BoxedDevicePath}
use Rattle.uefi_path.specs.declared.boxed.BoxedDevicePathInstance.{BoxedDevicePathInstance}
use Rattle.uefi_path.specs.declared.loaded_image.LoadedImageDevicePath.{LoadedImageDevicePath}
use Rattle.uefi_path.specs.declared.node_iter.DevicePathNodeIterator.{DevicePathNodeIterator}
use Rattle.uefi_path.specs.declared.instance_iter.DevicePathInstanceIterator.{DevicePathInstanceIterator}
use Rattle.uefi_path.specs.Header.{Header, header}
use Rattle.uefi_path.specs.Node.{Node, encoding, joined}
use Rattle.uefi_path.specs.Path.{all_but_last}

-- The fields of the header.
abbrev pub header_of : DevicePathHeader → Header
header_of view = header view.device_type.0 view.sub_type.0 view.length

-- The node that the bytes of the view encode.
abbrev pub node_of : DevicePathNode → Node
node_of view = view.node.0

-- All bytes of the node.
abbrev pub node_bytes : DevicePathNode → List ℕ
node_bytes view = encoding (node_of view)

-- The nodes that the bytes of the path encode.
abbrev pub path_nodes : DevicePath → List Node
path_nodes path = path.nodes.0

-- All bytes of the path.
abbrev pub path_bytes : DevicePath → List ℕ
path_bytes path = joined (path_nodes path)

-- The nodes that the bytes of the instance encode.
abbrev pub instance_nodes : DevicePathInstance → List Node
instance_nodes instance = instance.nodes.0

-- All bytes of the instance.
abbrev pub instance_bytes : DevicePathInstance → List ℕ
instance_bytes instance = joined (instance_nodes instance)

-- The nodes of the path or the instance that the box owns.
abbrev pub boxed_nodes : {A : Type 0} → BoxedDevicePath A → List Node
boxed_nodes boxed = boxed.nodes.0

abbrev pub boxed_instance_nodes : {A : Type 0} → BoxedDevicePathInstance A → List Node
boxed_instance_nodes boxed = boxed.nodes.0

-- The device path of the loaded image.
abbrev pub loaded_path : LoadedImageDevicePath → DevicePath
loaded_path image = image.0

-- The nodes that the iterator hasn't returned yet.
abbrev pub nodes_left : DevicePathNodeIterator → List Node
nodes_left iter = all_but_last iter.nodes.0

-- The instances that the iterator hasn't returned yet, each as its nodes.
abbrev pub instances_left : DevicePathInstanceIterator → List (List Node)
instances_left iter = iter.instances.0
