-- Worked rows: the numbers, flags and GUIDs of the named values of fields, as the standard's tables have them.
use Rattle.std.specs.Prelude.{◌≡◌, codes}
use Rattle.uefi_base.specs.GuidText.{guid_text}
use Rattle.uefi_node.specs.declared.hardware.bmc.TheConstants.BmcInterfaceType as bmc
use Rattle.uefi_node.specs.declared.messaging.atapi.TheConstants.PrimarySecondary as channel
use Rattle.uefi_node.specs.declared.messaging.atapi.TheConstants.MasterSlave as drive
use Rattle.uefi_node.specs.declared.messaging.ipv4.TheConstants.Ipv4AddressOrigin as ipv4_origin
use Rattle.uefi_node.specs.declared.messaging.ipv6.TheConstants.Ipv6AddressOrigin as ipv6_origin
use Rattle.uefi_node.specs.declared.messaging.infiniband_resource_flags.TheConstants.InfinibandResourceFlags as infiniband
use Rattle.uefi_node.specs.declared.messaging.uart.TheConstants.Parity as parity
use Rattle.uefi_node.specs.declared.messaging.uart.TheConstants.StopBits as stop_bits
use Rattle.uefi_node.specs.declared.messaging.iscsi.TheConstants.IscsiProtocol as iscsi
use Rattle.uefi_node.specs.declared.messaging.iscsi_login_options.TheConstants.IscsiLoginOptions as login
use Rattle.uefi_node.specs.declared.messaging.bluetooth_le.TheConstants.BluetoothLeAddressType as bluetooth_le
use Rattle.uefi_node.specs.declared.messaging.dns.TheConstants.DnsAddressType as dns
use Rattle.uefi_node.specs.declared.messaging.rest_service.TheConstants.RestServiceType as service
use Rattle.uefi_node.specs.declared.messaging.rest_service.TheConstants.RestServiceAccessMode as access
use Rattle.uefi_node.specs.declared.media.hard_drive.TheConstants.PartitionFormat as format
use Rattle.uefi_node.specs.declared.media.ram_disk_type.TheConstants.RamDiskType as ram_disk
use Rattle.uefi_node.specs.declared.bios_boot_spec.boot_specification.TheConstants.BootSpecificationDeviceType as boot

-- The interface of a baseboard management controller (UEFI 2.10, 10.3.2.6).
pub record BmcInterfaces : Type 0 where
  pub unknown : bmc.UNKNOWN.0 ≡ 0
  pub keyboard_controller_style : bmc.KEYBOARD_CONTROLLER_STYLE.0 ≡ 1
  pub server_management_interface_chip : bmc.SERVER_MANAGEMENT_INTERFACE_CHIP.0 ≡ 2
  pub block_transfer : bmc.BLOCK_TRANSFER.0 ≡ 3

-- The channel and the drive of an ATAPI device (UEFI 2.10, 10.3.4.1).
pub record AtapiDevices : Type 0 where
  pub primary : channel.PRIMARY.0 ≡ 0
  pub secondary : channel.SECONDARY.0 ≡ 1
  pub master : drive.MASTER.0 ≡ 0
  pub slave : drive.SLAVE.0 ≡ 1

-- Where an IPv4 address comes from (UEFI 2.10, 10.3.4.12).
pub record Ipv4Origins : Type 0 where
  pub dhcp : ipv4_origin.DHCP.0 ≡ 0
  pub static : ipv4_origin.STATIC.0 ≡ 1

-- Where an IPv6 address comes from (UEFI 2.10, 10.3.4.13).
pub record Ipv6Origins : Type 0 where
  pub manual : ipv6_origin.MANUAL.0 ≡ 0
  pub auto : ipv6_origin.AUTO.0 ≡ 1
  pub stateful : ipv6_origin.STATEFUL.0 ≡ 2

-- The resource flags of an InfiniBand device (UEFI 2.10, 10.3.4.15): bits 0 to 4.
pub record InfinibandFlags : Type 0 where
  pub service : infiniband.SERVICE.0 ≡ 0x01
  pub extended_boot_environment : infiniband.EXTENDED_BOOT_ENVIRONMENT.0 ≡ 0x02
  pub console_protocol : infiniband.CONSOLE_PROTOCOL.0 ≡ 0x04
  pub storage_protocol : infiniband.STORAGE_PROTOCOL.0 ≡ 0x08
  pub network_protocol : infiniband.NETWORK_PROTOCOL.0 ≡ 0x10

-- The parity of a serial port (UEFI 2.10, 10.3.4.16).
pub record Parities : Type 0 where
  pub default : parity.DEFAULT.0 ≡ 0
  pub no : parity.NO.0 ≡ 1
  pub even : parity.EVEN.0 ≡ 2
  pub odd : parity.ODD.0 ≡ 3
  pub mark : parity.MARK.0 ≡ 4
  pub space : parity.SPACE.0 ≡ 5

-- The stop bits of a serial port (UEFI 2.10, 10.3.4.16).
pub record StopBits : Type 0 where
  pub default : stop_bits.DEFAULT.0 ≡ 0
  pub one : stop_bits.ONE.0 ≡ 1
  pub one_point_five : stop_bits.ONE_POINT_FIVE.0 ≡ 2
  pub two : stop_bits.TWO.0 ≡ 3

-- The protocol below iSCSI, and the login options: bits 1, 3, 11 and 12 (UEFI 2.10, 10.3.4.21).
pub record Iscsi : Type 0 where
  pub tcp : iscsi.TCP.0 ≡ 0
  pub header_digest_using_crc32c : login.HEADER_DIGEST_USING_CRC32C.0 ≡ 0x0002
  pub data_digest_using_crc32c : login.DATA_DIGEST_USING_CRC32C.0 ≡ 0x0008
  pub auth_method_none : login.AUTH_METHOD_NONE.0 ≡ 0x0800
  pub chap_uni : login.CHAP_UNI.0 ≡ 0x1000

-- The type of a Bluetooth Low Energy address (UEFI 2.10, 10.3.4.29).
pub record BluetoothLeAddresses : Type 0 where
  pub public_address : bluetooth_le.PUBLIC.0 ≡ 0
  pub random_address : bluetooth_le.RANDOM.0 ≡ 1

-- The type of the addresses of DNS servers (UEFI 2.10, 10.3.4.30).
pub record DnsAddresses : Type 0 where
  pub ipv4 : dns.IPV4.0 ≡ 0
  pub ipv6 : dns.IPV6.0 ≡ 1

-- The type of a REST service, and how it is reached (UEFI 2.10, 10.3.4.32).
pub record RestServices : Type 0 where
  pub redfish : service.REDFISH.0 ≡ 1
  pub odata : service.ODATA.0 ≡ 2
  pub vendor : service.VENDOR.0 ≡ 0xff
  pub in_band : access.IN_BAND.0 ≡ 1
  pub out_of_band : access.OUT_OF_BAND.0 ≡ 2

-- The format of a partition table (UEFI 2.10, 10.3.5.1).
pub record PartitionFormats : Type 0 where
  pub mbr : format.MBR.0 ≡ 1
  pub gpt : format.GPT.0 ≡ 2

-- The GUID of a type of RAM disks (UEFI 2.10, 10.3.5.9).
pub record RamDisks : Type 0 where
  pub virtual_disk : guid_text ram_disk.VIRTUAL_DISK.0.0 ≡ codes "77ab535a-45fc-624b-5560-f7b281d1f96e"
  pub virtual_cd : guid_text ram_disk.VIRTUAL_CD.0.0 ≡ codes "3d5abd30-4175-87ce-6d64-d2ade523c4bb"
  pub persistent_virtual_disk :
      guid_text ram_disk.PERSISTENT_VIRTUAL_DISK.0.0 ≡ codes "5cea02c9-4d07-69d3-269f-4496fbe096f9"
  pub persistent_virtual_cd :
      guid_text ram_disk.PERSISTENT_VIRTUAL_CD.0.0 ≡ codes "08018188-42cd-bb48-100f-5387d53ded3d"

-- The type of a boot device (UEFI 2.10, 10.3.6).
pub record BootDevices : Type 0 where
  pub floppy : boot.FLOPPY.0 ≡ 1
  pub hard_drive : boot.HARD_DRIVE.0 ≡ 2
  pub cd_rom : boot.CD_ROM.0 ≡ 3
  pub pcmcia : boot.PCMCIA.0 ≡ 4
  pub usb : boot.USB.0 ≡ 5
  pub embedded_network : boot.EMBEDDED_NETWORK.0 ≡ 6
  pub bootstrap_entry_vector : boot.BOOTSTRAP_ENTRY_VECTOR.0 ≡ 0x80
  pub unknown : boot.UNKNOWN.0 ≡ 0xff

-- All of them hold.
pub record NumbersHold : Type 0 where
  pub bmc_interfaces : BmcInterfaces
  pub atapi_devices : AtapiDevices
  pub ipv4_origins : Ipv4Origins
  pub ipv6_origins : Ipv6Origins
  pub infiniband_flags : InfinibandFlags
  pub parities : Parities
  pub stop_bits : StopBits
  pub iscsi : Iscsi
  pub bluetooth_le_addresses : BluetoothLeAddresses
  pub dns_addresses : DnsAddresses
  pub rest_services : RestServices
  pub partition_formats : PartitionFormats
  pub ram_disks : RamDisks
  pub boot_devices : BootDevices
