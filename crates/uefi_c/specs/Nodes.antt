-- Nodes of device paths by their types (UEFI 2.10, 10.3): the node of each plain structure, by the layouts of `uefi_node`.
use Rattle.std.specs.Prelude.{ℕ, ◌⊎◌, ◌==◌, if◌then◌else◌, List, take, Option, Some, None as NoNode}
use Rattle.uefi_path.specs.Node.{Node}
use Rattle.uefi_node.specs.Layout.{Layout, IsNodeAs, node_as}
use Rattle.uefi_node.specs.Hardware.{pci, vendor as hardware_vendor}
use Rattle.uefi_node.specs.Acpi.{acpi}
use Rattle.uefi_node.specs.Messaging.{usb, sata, nvme_namespace, mac_address, ipv4, ipv6, uri, vendor as messaging_vendor}
use Rattle.uefi_node.specs.Media.{hard_drive, file_path, vendor as media_vendor}
use Rattle.uefi_node.specs.Signature.{is_defined}
use Rattle.uefi_node.specs.declared.media.partition_signature.PartitionSignature.{PartitionSignature}
use Rattle.uefi_node.specs.declared.media.partition_signature.PartitionSignature.TheVariants.{None, Mbr, Guid, Unknown}
use Rattle.uefi_node.specs.declared.hardware.pci.Pci.{Pci}
use Rattle.uefi_node.specs.declared.acpi.device.Acpi.{Acpi}
use Rattle.uefi_node.specs.declared.messaging.usb.Usb.{Usb}
use Rattle.uefi_node.specs.declared.messaging.sata.Sata.{Sata}
use Rattle.uefi_node.specs.declared.messaging.nvme_namespace.NvmeNamespace.{NvmeNamespace}
use Rattle.uefi_node.specs.declared.messaging.mac_address.MacAddress.{MacAddress}
use Rattle.uefi_node.specs.declared.messaging.ipv4.Ipv4.{Ipv4}
use Rattle.uefi_node.specs.declared.messaging.ipv6.Ipv6.{Ipv6}
use Rattle.uefi_node.specs.declared.messaging.uri.Uri.{Uri}
use Rattle.uefi_node.specs.declared.media.hard_drive.HardDrive.{HardDrive}
use Rattle.uefi_c.specs.declared.nodes.pci.UefiPciNode.{UefiPciNode}
use Rattle.uefi_c.specs.declared.nodes.acpi.UefiAcpiNode.{UefiAcpiNode}
use Rattle.uefi_c.specs.declared.nodes.usb.UefiUsbNode.{UefiUsbNode}
use Rattle.uefi_c.specs.declared.nodes.sata.UefiSataNode.{UefiSataNode}
use Rattle.uefi_c.specs.declared.nodes.nvme.UefiNvmeNode.{UefiNvmeNode}
use Rattle.uefi_c.specs.declared.nodes.mac.UefiMacNode.{UefiMacNode}
use Rattle.uefi_c.specs.declared.nodes.ipv4.UefiIpv4Node.{UefiIpv4Node}
use Rattle.uefi_c.specs.declared.nodes.ipv6.UefiIpv6Node.{UefiIpv6Node}
use Rattle.uefi_c.specs.declared.nodes.uri.UefiUriNode.{UefiUriNode}
use Rattle.uefi_c.specs.declared.nodes.hard_drive.UefiHardDriveNode.{UefiHardDriveNode}
use Rattle.uefi_c.specs.declared.nodes.file_path.UefiFilePathNode.{UefiFilePathNode}
use Rattle.uefi_c.specs.declared.nodes.vendor.UefiVendorNode.{UefiVendorNode}

-- The node is one of the type: that of some value.
abbrev pub IsOfType : {R : Type 0} → Layout R → Node → Type 0
IsOfType {R = R} layout node = (value : R) × IsNodeAs layout value node

-- A PCI function (10.3.2.1), and its node.
abbrev pub pci_seen : UefiPciNode → Pci
pci_seen seen = record { function = seen.function; device = seen.device }

abbrev pub pci_node : UefiPciNode → Node
pci_node seen = node_as pci (pci_seen seen)

-- An ACPI device (10.3.3).
abbrev pub acpi_seen : UefiAcpiNode → Acpi
acpi_seen seen = record { hid = seen.hid; uid = seen.uid }

abbrev pub acpi_node : UefiAcpiNode → Node
acpi_node seen = node_as acpi (acpi_seen seen)

-- A USB device, by its port (10.3.4.5).
abbrev pub usb_seen : UefiUsbNode → Usb
usb_seen seen = record { parent_port_number = seen.parent_port_number; interface = seen.interface_number }

abbrev pub usb_node : UefiUsbNode → Node
usb_node seen = node_as usb (usb_seen seen)

-- A SATA device (10.3.4.6).
abbrev pub sata_seen : UefiSataNode → Sata
sata_seen seen = record {
  hba_port_number = seen.hba_port_number;
  port_multiplier_port_number = seen.port_multiplier_port_number;
  logical_unit_number = seen.logical_unit_number;
}

abbrev pub sata_node : UefiSataNode → Node
sata_node seen = node_as sata (sata_seen seen)

-- A namespace of an NVM Express device (10.3.4.22).
abbrev pub nvme_seen : UefiNvmeNode → NvmeNamespace
nvme_seen seen = record {
  namespace_identifier = seen.namespace_identifier;
  ieee_extended_unique_identifier = seen.ieee_extended_unique_identifier;
}

abbrev pub nvme_node : UefiNvmeNode → Node
nvme_node seen = node_as nvme_namespace (nvme_seen seen)

-- The address of a network interface (10.3.4.11).
abbrev pub mac_seen : UefiMacNode → MacAddress
mac_seen seen = record { mac_address = seen.mac_address; interface_type = seen.interface_type }

abbrev pub mac_node : UefiMacNode → Node
mac_node seen = node_as mac_address (mac_seen seen)

-- An IPv4 connection (10.3.4.12).
abbrev pub ipv4_seen : UefiIpv4Node → Ipv4
ipv4_seen seen = record {
  local_ip_address = seen.local_ip_address;
  remote_ip_address = seen.remote_ip_address;
  local_port = seen.local_port;
  remote_port = seen.remote_port;
  protocol = seen.protocol;
  ip_address_origin = record { 0 = seen.ip_address_origin };
  gateway_ip_address = seen.gateway_ip_address;
  subnet_mask = seen.subnet_mask;
}

abbrev pub ipv4_node : UefiIpv4Node → Node
ipv4_node seen = node_as ipv4 (ipv4_seen seen)

-- An IPv6 connection (10.3.4.13).
abbrev pub ipv6_seen : UefiIpv6Node → Ipv6
ipv6_seen seen = record {
  local_ip_address = seen.local_ip_address;
  remote_ip_address = seen.remote_ip_address;
  local_port = seen.local_port;
  remote_port = seen.remote_port;
  protocol = seen.protocol;
  ip_address_origin = record { 0 = seen.ip_address_origin };
  prefix_length = seen.prefix_length;
  gateway_ip_address = seen.gateway_ip_address;
}

abbrev pub ipv6_node : UefiIpv6Node → Node
ipv6_node seen = node_as ipv6 (ipv6_seen seen)

-- A URI (10.3.4.23).
abbrev pub uri_seen : UefiUriNode → Uri
uri_seen seen = record { value = seen.uri }

abbrev pub uri_node : UefiUriNode → Node
uri_node seen = node_as uri (uri_seen seen)

-- The signature of a partition that has this type and these bytes (10.3.5.1).
abbrev pub defined_signature : ℕ → List ℕ → PartitionSignature
defined_signature kind bytes =
    if kind == 0 then None else (if kind == 1 then Mbr (take 4 bytes) else Guid (record { 0 = bytes }))

abbrev pub signature_seen : ℕ → List ℕ → PartitionSignature
signature_seen kind bytes = if is_defined kind bytes then defined_signature kind bytes else Unknown kind bytes

-- A partition of a hard drive (10.3.5.1).
abbrev pub hard_drive_seen : UefiHardDriveNode → HardDrive
hard_drive_seen seen = record {
  partition_number = seen.partition_number;
  partition_start = seen.partition_start;
  partition_size = seen.partition_size;
  partition_signature = signature_seen seen.signature_type seen.partition_signature;
  partition_format = record { 0 = seen.partition_format };
}

abbrev pub hard_drive_node : UefiHardDriveNode → Node
hard_drive_node seen = node_as hard_drive (hard_drive_seen seen)

-- The path of a file (10.3.5.4), of these bytes.
abbrev pub file_path_of : List ℕ → Node
file_path_of name = record { device_type = file_path.device_type; sub_type = file_path.sub_type; payload = name }

abbrev pub file_path_node : UefiFilePathNode → Node
file_path_node seen = file_path_of seen.path_name.now

-- The node is one of what a vendor describes: a device (10.3.2.4), a connection (10.3.4.17) or a medium (10.3.5.3).
abbrev pub IsVendorNode : Node → Type 0
IsVendorNode node = IsOfType hardware_vendor node ⊎ IsOfType messaging_vendor node ⊎ IsOfType media_vendor node

-- The node of what a vendor describes, by its type, or none.
abbrev pub vendor_node : UefiVendorNode → Option Node
vendor_node seen =
    if seen.device_type == hardware_vendor.device_type then Some (node_as hardware_vendor (record {
      vendor_guid = record { 0 = seen.vendor_guid };
      vendor_defined_data = seen.vendor_defined_data;
    })) else (if seen.device_type == messaging_vendor.device_type then Some (node_as messaging_vendor (record {
      vendor_guid = record { 0 = seen.vendor_guid };
      vendor_defined_data = seen.vendor_defined_data;
    })) else (if seen.device_type == media_vendor.device_type then Some (node_as media_vendor (record {
      vendor_guid = record { 0 = seen.vendor_guid };
      vendor_defined_data = seen.vendor_defined_data;
    })) else NoNode))
