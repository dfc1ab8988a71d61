-- Nodes of the type MESSAGING (UEFI 2.10, 10.3.4), field by field as in the standard's tables.
use Rattle.std.specs.Prelude.{[], ◌∷◌}
use Rattle.uefi_base.specs.Views.{slice_units}
use Rattle.uefi_node.specs.Layout.{Layout, layout, byte, number, array, two, four, eight, nothing, bytes, units, addresses}
use Rattle.uefi_node.specs.Views.{address_bytes}
use Rattle.uefi_node.specs.declared.messaging.atapi.Atapi.{Atapi}
use Rattle.uefi_node.specs.declared.messaging.scsi.Scsi.{Scsi}
use Rattle.uefi_node.specs.declared.messaging.fibre_channel.FibreChannel.{FibreChannel}
use Rattle.uefi_node.specs.declared.messaging.fibre_channel_ex.FibreChannelEx.{FibreChannelEx}
use Rattle.uefi_node.specs.declared.messaging.ieee1394.Ieee1394.{Ieee1394}
use Rattle.uefi_node.specs.declared.messaging.usb.Usb.{Usb}
use Rattle.uefi_node.specs.declared.messaging.sata.Sata.{Sata}
use Rattle.uefi_node.specs.declared.messaging.usb_wwid.UsbWwid.{UsbWwid}
use Rattle.uefi_node.specs.declared.messaging.device_logical_unit.DeviceLogicalUnit.{DeviceLogicalUnit}
use Rattle.uefi_node.specs.declared.messaging.usb_class.UsbClass.{UsbClass}
use Rattle.uefi_node.specs.declared.messaging.i2o.I2o.{I2o}
use Rattle.uefi_node.specs.declared.messaging.mac_address.MacAddress.{MacAddress}
use Rattle.uefi_node.specs.declared.messaging.ipv4.Ipv4.{Ipv4}
use Rattle.uefi_node.specs.declared.messaging.ipv6.Ipv6.{Ipv6}
use Rattle.uefi_node.specs.declared.messaging.vlan.Vlan.{Vlan}
use Rattle.uefi_node.specs.declared.messaging.infiniband.Infiniband.{Infiniband}
use Rattle.uefi_node.specs.declared.messaging.uart.Uart.{Uart}
use Rattle.uefi_node.specs.declared.messaging.vendor.Vendor.{Vendor}
use Rattle.uefi_node.specs.declared.messaging.sas_ex.SasEx.{SasEx}
use Rattle.uefi_node.specs.declared.messaging.iscsi.Iscsi.{Iscsi}
use Rattle.uefi_node.specs.declared.messaging.nvme_namespace.NvmeNamespace.{NvmeNamespace}
use Rattle.uefi_node.specs.declared.messaging.uri.Uri.{Uri}
use Rattle.uefi_node.specs.declared.messaging.ufs.Ufs.{Ufs}
use Rattle.uefi_node.specs.declared.messaging.sd.Sd.{Sd}
use Rattle.uefi_node.specs.declared.messaging.bluetooth.Bluetooth.{Bluetooth}
use Rattle.uefi_node.specs.declared.messaging.wifi.Wifi.{Wifi}
use Rattle.uefi_node.specs.declared.messaging.emmc.Emmc.{Emmc}
use Rattle.uefi_node.specs.declared.messaging.bluetooth_le.BluetoothLe.{BluetoothLe}
use Rattle.uefi_node.specs.declared.messaging.dns.Dns.{Dns}
use Rattle.uefi_node.specs.declared.messaging.nvdimm_namespace.NvdimmNamespace.{NvdimmNamespace}
use Rattle.uefi_node.specs.declared.messaging.nvme_of_namespace.NvmeOfNamespace.{NvmeOfNamespace}

-- An ATAPI device (10.3.4.1).
abbrev pub atapi : Layout Atapi
atapi = layout 3 1 (
    byte (λ a. a.primary_secondary.0)
    ∷ byte (λ a. a.master_slave.0)
    ∷ number two (λ a. a.logical_unit_number)
    ∷ []
    ) nothing

-- A SCSI device (10.3.4.2).
abbrev pub scsi : Layout Scsi
scsi = layout 3 2 (number two (λ s. s.target_id) ∷ number two (λ s. s.logical_unit_number) ∷ []) nothing

-- A Fibre Channel device (10.3.4.3).
abbrev pub fibre_channel : Layout FibreChannel
fibre_channel = layout 3 3 (
    number four (λ f. f.reserved)
    ∷ number eight (λ f. f.world_wide_name)
    ∷ number eight (λ f. f.logical_unit_number)
    ∷ []
    ) nothing

-- A Fibre Channel device, with its addresses as bytes (10.3.4.3).
abbrev pub fibre_channel_ex : Layout FibreChannelEx
fibre_channel_ex = layout 3 21 (
    number four (λ f. f.reserved)
    ∷ array 8 (λ f. f.world_wide_name)
    ∷ array 8 (λ f. f.logical_unit_number)
    ∷ []
    ) nothing

-- An IEEE 1394 device (10.3.4.4).
abbrev pub ieee1394 : Layout Ieee1394
ieee1394 = layout 3 4 (number four (λ i. i.reserved) ∷ array 8 (λ i. i.guid) ∷ []) nothing

-- A USB device, by its port (10.3.4.5).
abbrev pub usb : Layout Usb
usb = layout 3 5 (byte (λ u. u.parent_port_number) ∷ byte (λ u. u.interface) ∷ []) nothing

-- A SATA device (10.3.4.6).
abbrev pub sata : Layout Sata
sata = layout 3 18 (
    number two (λ s. s.hba_port_number)
    ∷ number two (λ s. s.port_multiplier_port_number)
    ∷ number two (λ s. s.logical_unit_number)
    ∷ []
    ) nothing

-- A USB device, by its serial number (10.3.4.7).
abbrev pub usb_wwid : Layout UsbWwid
usb_wwid = layout 3 16 (
    number two (λ u. u.interface_number)
    ∷ number two (λ u. u.device_vendor_id)
    ∷ number two (λ u. u.device_product_id)
    ∷ []
    ) (units (λ u. slice_units u.serial_number))

-- A logical unit of a device (10.3.4.8).
abbrev pub device_logical_unit : Layout DeviceLogicalUnit
device_logical_unit = layout 3 17 (byte (λ d. d.logical_unit_number) ∷ []) nothing

-- USB devices of a class (10.3.4.9).
abbrev pub usb_class : Layout UsbClass
usb_class = layout 3 15 (
    number two (λ u. u.vendor_id)
    ∷ number two (λ u. u.product_id)
    ∷ byte (λ u. u.device_class)
    ∷ byte (λ u. u.device_subclass)
    ∷ byte (λ u. u.device_protocol)
    ∷ []
    ) nothing

-- An I2O device (10.3.4.10).
abbrev pub i2o : Layout I2o
i2o = layout 3 6 (number four (λ i. i.target_id) ∷ []) nothing

-- The address of a network interface (10.3.4.11).
abbrev pub mac_address : Layout MacAddress
mac_address = layout 3 11 (array 32 (λ m. m.mac_address) ∷ byte (λ m. m.interface_type) ∷ []) nothing

-- An IPv4 connection (10.3.4.12).
abbrev pub ipv4 : Layout Ipv4
ipv4 = layout 3 12 (
    array 4 (λ i. i.local_ip_address)
    ∷ array 4 (λ i. i.remote_ip_address)
    ∷ number two (λ i. i.local_port)
    ∷ number two (λ i. i.remote_port)
    ∷ number two (λ i. i.protocol)
    ∷ byte (λ i. i.ip_address_origin.0)
    ∷ array 4 (λ i. i.gateway_ip_address)
    ∷ array 4 (λ i. i.subnet_mask)
    ∷ []
    ) nothing

-- An IPv6 connection (10.3.4.13).
abbrev pub ipv6 : Layout Ipv6
ipv6 = layout 3 13 (
    array 16 (λ i. i.local_ip_address)
    ∷ array 16 (λ i. i.remote_ip_address)
    ∷ number two (λ i. i.local_port)
    ∷ number two (λ i. i.remote_port)
    ∷ number two (λ i. i.protocol)
    ∷ byte (λ i. i.ip_address_origin.0)
    ∷ byte (λ i. i.prefix_length)
    ∷ array 16 (λ i. i.gateway_ip_address)
    ∷ []
    ) nothing

-- A virtual LAN (10.3.4.14).
abbrev pub vlan : Layout Vlan
vlan = layout 3 20 (number two (λ v. v.vlan_id) ∷ []) nothing

-- An InfiniBand device (10.3.4.15).
abbrev pub infiniband : Layout Infiniband
infiniband = layout 3 9 (
    number four (λ i. i.resource_flags.0)
    ∷ array 16 (λ i. i.port_gid)
    ∷ number eight (λ i. i.ioc_guid_or_service_id)
    ∷ number eight (λ i. i.target_port_id)
    ∷ number eight (λ i. i.device_id)
    ∷ []
    ) nothing

-- A serial port (10.3.4.16).
abbrev pub uart : Layout Uart
uart = layout 3 14 (
    number four (λ u. u.reserved)
    ∷ number eight (λ u. u.baud_rate)
    ∷ byte (λ u. u.data_bits)
    ∷ byte (λ u. u.parity.0)
    ∷ byte (λ u. u.stop_bits.0)
    ∷ []
    ) nothing

-- A connection that its vendor describes (10.3.4.17).
abbrev pub vendor : Layout Vendor
vendor = layout 3 10 (array 16 (λ v. v.vendor_guid.0) ∷ []) (bytes (λ v. v.vendor_defined_data.now))

-- A Serial Attached SCSI device (10.3.4.20).
abbrev pub sas_ex : Layout SasEx
sas_ex = layout 3 22 (
    array 8 (λ s. s.sas_address)
    ∷ array 8 (λ s. s.logical_unit_number)
    ∷ number two (λ s. s.info)
    ∷ number two (λ s. s.relative_target_port)
    ∷ []
    ) nothing

-- An iSCSI target (10.3.4.21).
abbrev pub iscsi : Layout Iscsi
iscsi = layout 3 19 (
    number two (λ i. i.protocol.0)
    ∷ number two (λ i. i.options.0)
    ∷ array 8 (λ i. i.logical_unit_number)
    ∷ number two (λ i. i.target_portal_group_tag)
    ∷ []
    ) (bytes (λ i. i.iscsi_target_name.now))

-- A namespace of an NVM Express device (10.3.4.22).
abbrev pub nvme_namespace : Layout NvmeNamespace
nvme_namespace = layout 3 23 (
    number four (λ n. n.namespace_identifier)
    ∷ number eight (λ n. n.ieee_extended_unique_identifier)
    ∷ []
    ) nothing

-- A URI (10.3.4.23).
abbrev pub uri : Layout Uri
uri = layout 3 24 [] (bytes (λ u. u.value.now))

-- A Universal Flash Storage device (10.3.4.24).
abbrev pub ufs : Layout Ufs
ufs = layout 3 25 (byte (λ u. u.target_id) ∷ byte (λ u. u.logical_unit_number) ∷ []) nothing

-- An SD card (10.3.4.25).
abbrev pub sd : Layout Sd
sd = layout 3 26 (byte (λ s. s.slot_number) ∷ []) nothing

-- A Bluetooth device (10.3.4.26).
abbrev pub bluetooth : Layout Bluetooth
bluetooth = layout 3 27 (array 6 (λ b. b.device_address) ∷ []) nothing

-- A wireless network (10.3.4.27).
abbrev pub wifi : Layout Wifi
wifi = layout 3 28 (array 32 (λ w. w.ssid) ∷ []) nothing

-- An embedded MMC device (10.3.4.28).
abbrev pub emmc : Layout Emmc
emmc = layout 3 29 (byte (λ e. e.slot_number) ∷ []) nothing

-- A Bluetooth Low Energy device (10.3.4.29).
abbrev pub bluetooth_le : Layout BluetoothLe
bluetooth_le = layout 3 30 (array 6 (λ b. b.device_address) ∷ byte (λ b. b.address_type.0) ∷ []) nothing

-- Addresses of DNS servers (10.3.4.30).
abbrev pub dns : Layout Dns
dns = layout 3 31 (byte (λ d. d.address_type.0) ∷ []) (addresses (λ d. address_bytes d.addresses))

-- A namespace of an NVDIMM (10.3.4.31).
abbrev pub nvdimm_namespace : Layout NvdimmNamespace
nvdimm_namespace = layout 3 32 (array 16 (λ n. n.uuid) ∷ []) nothing

-- A namespace of an NVMe over Fabrics subsystem (10.3.4.33).
abbrev pub nvme_of_namespace : Layout NvmeOfNamespace
nvme_of_namespace = layout 3 34 (byte (λ n. n.nidt) ∷ array 16 (λ n. n.nid) ∷ []) (bytes (λ n. n.subsystem_nqn.now))
