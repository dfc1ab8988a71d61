-- Nodes by their types: the table of all types, and what reading a node of any type returns.
use Rattle.std.specs.Prelude.{ℕ, ◌≡◌, ◌≤◌, ◌-◌, ◌==◌, ◌&&◌, List, [], ◌∷◌, length, Option, None, IsSomeAnd, Result, IfOk, IfErr, OnErr}
use Rattle.std.specs.List.{find}
use Rattle.uefi_path.specs.Node.{Node}
use Rattle.uefi_node.specs.Layout.{Layout, Form, fields_size, kind_of, RestLength, HasForm, IsNodeAs}
use Rattle.uefi_node.specs.End as end
use Rattle.uefi_node.specs.Hardware as hardware
use Rattle.uefi_node.specs.Acpi as acpi
use Rattle.uefi_node.specs.Expanded as expanded
use Rattle.uefi_node.specs.Messaging as messaging
use Rattle.uefi_node.specs.RestServices as restservices
use Rattle.uefi_node.specs.Media as media
use Rattle.uefi_node.specs.BiosBootSpec as biosbootspec
use Rattle.uefi_node.specs.declared.read.RestKind.{RestKind}
use Rattle.uefi_node.specs.declared.error.NodeConversionError.{NodeConversionError}
use Rattle.uefi_node.specs.declared.error.NodeConversionError.TheVariants.{DifferentType, UnsupportedType, Length, Form as WrongForm}
use Rattle.uefi_node.specs.declared.node_enum.DevicePathNodeEnum.{DevicePathNodeEnum}
use Rattle.uefi_node.specs.declared.node_enum.DevicePathNodeEnum.TheVariants.{EndInstance, EndEntire}
use Rattle.uefi_node.specs.declared.node_enum.DevicePathNodeEnum.TheVariants.{HardwarePci, HardwarePccard, HardwareMemoryMapped, HardwareVendor, HardwareController, HardwareBmc}
use Rattle.uefi_node.specs.declared.node_enum.DevicePathNodeEnum.TheVariants.{AcpiAcpi, AcpiExpanded, AcpiAdr, AcpiNvdimm}
use Rattle.uefi_node.specs.declared.node_enum.DevicePathNodeEnum.TheVariants.{MessagingAtapi, MessagingScsi, MessagingFibreChannel, MessagingFibreChannelEx, MessagingIeee1394, MessagingUsb, MessagingSata, MessagingUsbWwid, MessagingDeviceLogicalUnit, MessagingUsbClass, MessagingI2o, MessagingMacAddress, MessagingIpv4, MessagingIpv6, MessagingVlan, MessagingInfiniband, MessagingUart, MessagingVendor, MessagingSasEx, MessagingIscsi, MessagingNvmeNamespace, MessagingUri, MessagingUfs, MessagingSd, MessagingBluetooth, MessagingWifi, MessagingEmmc, MessagingBluetoothLe, MessagingDns, MessagingNvdimmNamespace, MessagingRestService, MessagingNvmeOfNamespace}
use Rattle.uefi_node.specs.declared.node_enum.DevicePathNodeEnum.TheVariants.{MediaHardDrive, MediaCdRom, MediaVendor, MediaFilePath, MediaProtocol, MediaPiwgFirmwareFile, MediaPiwgFirmwareVolume, MediaRelativeOffsetRange, MediaRamDisk}
use Rattle.uefi_node.specs.declared.node_enum.DevicePathNodeEnum.TheVariants.{BiosBootSpecBootSpecification}

-- What the standard states of a type of nodes: its numbers, the size of its fields, what follows them, and the form.
pub record NodeType : Type 0 where
  pub device_type : ℕ
  pub sub_type : ℕ
  pub size : ℕ
  pub rest : RestKind
  pub form : Form

abbrev pub type_of : {R : Type 0} → Layout R → NodeType
type_of l = record {
  device_type = l.device_type;
  sub_type = l.sub_type;
  size = fields_size l.fields;
  rest = kind_of l.rest;
  form = l.form;
}

-- All types of nodes of UEFI 2.10, 10.3.1 to 10.3.6.
abbrev pub node_types : List NodeType
node_types =
    type_of end.instance
    ∷ type_of end.entire
    ∷ type_of hardware.pci
    ∷ type_of hardware.pccard
    ∷ type_of hardware.memory_mapped
    ∷ type_of hardware.vendor
    ∷ type_of hardware.controller
    ∷ type_of hardware.bmc
    ∷ type_of acpi.acpi
    ∷ type_of expanded.expanded
    ∷ type_of acpi.adr
    ∷ type_of acpi.nvdimm
    ∷ type_of messaging.atapi
    ∷ type_of messaging.scsi
    ∷ type_of messaging.fibre_channel
    ∷ type_of messaging.fibre_channel_ex
    ∷ type_of messaging.ieee1394
    ∷ type_of messaging.usb
    ∷ type_of messaging.sata
    ∷ type_of messaging.usb_wwid
    ∷ type_of messaging.device_logical_unit
    ∷ type_of messaging.usb_class
    ∷ type_of messaging.i2o
    ∷ type_of messaging.mac_address
    ∷ type_of messaging.ipv4
    ∷ type_of messaging.ipv6
    ∷ type_of messaging.vlan
    ∷ type_of messaging.infiniband
    ∷ type_of messaging.uart
    ∷ type_of messaging.vendor
    ∷ type_of messaging.sas_ex
    ∷ type_of messaging.iscsi
    ∷ type_of messaging.nvme_namespace
    ∷ type_of messaging.uri
    ∷ type_of messaging.ufs
    ∷ type_of messaging.sd
    ∷ type_of messaging.bluetooth
    ∷ type_of messaging.wifi
    ∷ type_of messaging.emmc
    ∷ type_of messaging.bluetooth_le
    ∷ type_of messaging.dns
    ∷ type_of messaging.nvdimm_namespace
    ∷ type_of restservices.rest_service
    ∷ type_of messaging.nvme_of_namespace
    ∷ type_of media.hard_drive
    ∷ type_of media.cd_rom
    ∷ type_of media.vendor
    ∷ type_of media.file_path
    ∷ type_of media.protocol
    ∷ type_of media.piwg_firmware_file
    ∷ type_of media.piwg_firmware_volume
    ∷ type_of media.relative_offset_range
    ∷ type_of media.ram_disk
    ∷ type_of biosbootspec.boot_specification
    ∷ []

-- The type with these numbers, if there is one.
abbrev pub find_type : ℕ → ℕ → Option NodeType
find_type device_type sub_type =
    find (λ known. known.device_type == device_type && known.sub_type == sub_type) node_types

-- The data have a length of the type.
abbrev pub HasTypeLength : NodeType → List ℕ → Type 0
HasTypeLength known payload = (known.size ≤ length payload) × RestLength known.rest (length payload - known.size)

-- Why a node is of no type: no type has its numbers; or its data have another length than the type that has them, or
-- not its form.
abbrev pub HasEnumFault : Node → NodeConversionError → Type 0
HasEnumFault node DifferentType = ⊥
HasEnumFault node UnsupportedType = find_type node.device_type node.sub_type ≡ None
HasEnumFault node Length =
    IsSomeAnd (find_type node.device_type node.sub_type) (λ known. ¬ HasTypeLength known node.payload)
HasEnumFault node WrongForm = IsSomeAnd (find_type node.device_type node.sub_type)
    (λ known. HasTypeLength known node.payload × ¬ HasForm known.form node.payload)

-- The node is that of the value.
abbrev pub IsNodeOf : DevicePathNodeEnum → Node → Type 0
IsNodeOf (EndInstance value) node = IsNodeAs end.instance value node
IsNodeOf (EndEntire value) node = IsNodeAs end.entire value node
IsNodeOf (HardwarePci value) node = IsNodeAs hardware.pci value node
IsNodeOf (HardwarePccard value) node = IsNodeAs hardware.pccard value node
IsNodeOf (HardwareMemoryMapped value) node = IsNodeAs hardware.memory_mapped value node
IsNodeOf (HardwareVendor value) node = IsNodeAs hardware.vendor value node
IsNodeOf (HardwareController value) node = IsNodeAs hardware.controller value node
IsNodeOf (HardwareBmc value) node = IsNodeAs hardware.bmc value node
IsNodeOf (AcpiAcpi value) node = IsNodeAs acpi.acpi value node
IsNodeOf (AcpiExpanded value) node = IsNodeAs expanded.expanded value node
IsNodeOf (AcpiAdr value) node = IsNodeAs acpi.adr value node
IsNodeOf (AcpiNvdimm value) node = IsNodeAs acpi.nvdimm value node
IsNodeOf (MessagingAtapi value) node = IsNodeAs messaging.atapi value node
IsNodeOf (MessagingScsi value) node = IsNodeAs messaging.scsi value node
IsNodeOf (MessagingFibreChannel value) node = IsNodeAs messaging.fibre_channel value node
IsNodeOf (MessagingFibreChannelEx value) node = IsNodeAs messaging.fibre_channel_ex value node
IsNodeOf (MessagingIeee1394 value) node = IsNodeAs messaging.ieee1394 value node
IsNodeOf (MessagingUsb value) node = IsNodeAs messaging.usb value node
IsNodeOf (MessagingSata value) node = IsNodeAs messaging.sata value node
IsNodeOf (MessagingUsbWwid value) node = IsNodeAs messaging.usb_wwid value node
IsNodeOf (MessagingDeviceLogicalUnit value) node = IsNodeAs messaging.device_logical_unit value node
IsNodeOf (MessagingUsbClass value) node = IsNodeAs messaging.usb_class value node
IsNodeOf (MessagingI2o value) node = IsNodeAs messaging.i2o value node
IsNodeOf (MessagingMacAddress value) node = IsNodeAs messaging.mac_address value node
IsNodeOf (MessagingIpv4 value) node = IsNodeAs messaging.ipv4 value node
IsNodeOf (MessagingIpv6 value) node = IsNodeAs messaging.ipv6 value node
IsNodeOf (MessagingVlan value) node = IsNodeAs messaging.vlan value node
IsNodeOf (MessagingInfiniband value) node = IsNodeAs messaging.infiniband value node
IsNodeOf (MessagingUart value) node = IsNodeAs messaging.uart value node
IsNodeOf (MessagingVendor value) node = IsNodeAs messaging.vendor value node
IsNodeOf (MessagingSasEx value) node = IsNodeAs messaging.sas_ex value node
IsNodeOf (MessagingIscsi value) node = IsNodeAs messaging.iscsi value node
IsNodeOf (MessagingNvmeNamespace value) node = IsNodeAs messaging.nvme_namespace value node
IsNodeOf (MessagingUri value) node = IsNodeAs messaging.uri value node
IsNodeOf (MessagingUfs value) node = IsNodeAs messaging.ufs value node
IsNodeOf (MessagingSd value) node = IsNodeAs messaging.sd value node
IsNodeOf (MessagingBluetooth value) node = IsNodeAs messaging.bluetooth value node
IsNodeOf (MessagingWifi value) node = IsNodeAs messaging.wifi value node
IsNodeOf (MessagingEmmc value) node = IsNodeAs messaging.emmc value node
IsNodeOf (MessagingBluetoothLe value) node = IsNodeAs messaging.bluetooth_le value node
IsNodeOf (MessagingDns value) node = IsNodeAs messaging.dns value node
IsNodeOf (MessagingNvdimmNamespace value) node = IsNodeAs messaging.nvdimm_namespace value node
IsNodeOf (MessagingRestService value) node = IsNodeAs restservices.rest_service value node
IsNodeOf (MessagingNvmeOfNamespace value) node = IsNodeAs messaging.nvme_of_namespace value node
IsNodeOf (MediaHardDrive value) node = IsNodeAs media.hard_drive value node
IsNodeOf (MediaCdRom value) node = IsNodeAs media.cd_rom value node
IsNodeOf (MediaVendor value) node = IsNodeAs media.vendor value node
IsNodeOf (MediaFilePath value) node = IsNodeAs media.file_path value node
IsNodeOf (MediaProtocol value) node = IsNodeAs media.protocol value node
IsNodeOf (MediaPiwgFirmwareFile value) node = IsNodeAs media.piwg_firmware_file value node
IsNodeOf (MediaPiwgFirmwareVolume value) node = IsNodeAs media.piwg_firmware_volume value node
IsNodeOf (MediaRelativeOffsetRange value) node = IsNodeAs media.relative_offset_range value node
IsNodeOf (MediaRamDisk value) node = IsNodeAs media.ram_disk value node
IsNodeOf (BiosBootSpecBootSpecification value) node = IsNodeAs biosbootspec.boot_specification value node

-- At Ok, the value whose node this is; at Err, why it is that of none.
pub record ReadsEnum (node : Node) (read : Result DevicePathNodeEnum NodeConversionError) : Type 0 where
  pub ok : IfOk read (λ value. IsNodeOf value node)
  pub err : IfErr read (HasEnumFault node)
  pub none : OnErr read ((value : DevicePathNodeEnum) → IsNodeOf value node → ⊥)
