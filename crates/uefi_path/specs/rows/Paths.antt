-- Worked rows, examples of the definitions: the numbers of types, the bytes of some paths, and bytes that start
-- with none.
use Rattle.std.specs.Prelude.{◌≡◌, ℕ, List, [], ◌∷◌, ◌++◌}
use Rattle.uefi_path.specs.declared.device_type.TheConstants.DeviceType.{HARDWARE, ACPI, MESSAGING, MEDIA, BIOS_BOOT_SPEC, END}
use Rattle.uefi_path.specs.declared.device_type.TheConstants.DeviceSubType.{END_INSTANCE, END_ENTIRE}
use Rattle.uefi_path.specs.declared.device_type.TheConstants.DeviceSubType as SubType
use Rattle.uefi_path.specs.Node.{Node, Fits, encoding, joined, end_entire, HasNode}
use Rattle.uefi_base.specs.Prefix.{IsPrefix}
use Rattle.uefi_path.specs.Path.{IsPath, HasPath, AreInstances, all_but_last}

-- A node with these fields.
abbrev pub node : ℕ → ℕ → List ℕ → Node
node t s d = record { device_type = t; sub_type = s; payload = d }

-- The nodes of two instances.
abbrev pub first_instance : List Node
first_instance =
    node 0xa0 0xb0 (0x0a ∷ 0x0b ∷ []) ∷ node 0xa1 0xb1 (0x14 ∷ 0x15 ∷ 0x16 ∷ 0x17 ∷ []) ∷ node 0x7f 0x01 [] ∷ []

abbrev pub second_instance : List Node
second_instance =
    node 0xa2 0xb2 (0x1e ∷ 0x1f ∷ []) ∷ node 0xa3 0xb3 (0x28 ∷ 0x29 ∷ 0x2a ∷ 0x2b ∷ []) ∷ node 0x7f 0xff [] ∷ []

-- Two instances, each of two nodes and the node that ends it, are these 36 bytes.
pub record TwoInstances : Type 0 where
  pub path : IsPath (first_instance ++ second_instance)
  pub instances : AreInstances (first_instance ∷ second_instance ∷ []) (first_instance ++ second_instance)
  pub bytes :
      joined (first_instance ++ second_instance)
      ≡ 0xa0 ∷ 0xb0 ∷ 6 ∷ 0 ∷ 0x0a ∷ 0x0b ∷ 0xa1 ∷ 0xb1 ∷ 8 ∷ 0 ∷ 0x14 ∷ 0x15 ∷ 0x16 ∷ 0x17 ∷ 0x7f ∷ 1 ∷ 4 ∷ 0
      ∷ 0xa2 ∷ 0xb2 ∷ 6 ∷ 0 ∷ 0x1e ∷ 0x1f ∷ 0xa3 ∷ 0xb3 ∷ 8 ∷ 0 ∷ 0x28 ∷ 0x29 ∷ 0x2a ∷ 0x2b ∷ 0x7f ∷ 0xff ∷ 4 ∷ 0 ∷ []
  pub nodes :
      all_but_last (first_instance ++ second_instance)
      ≡ node 0xa0 0xb0 (0x0a ∷ 0x0b ∷ [])
      ∷ node 0xa1 0xb1 (0x14 ∷ 0x15 ∷ 0x16 ∷ 0x17 ∷ [])
      ∷ node 0x7f 0x01 []
      ∷ node 0xa2 0xb2 (0x1e ∷ 0x1f ∷ [])
      ∷ node 0xa3 0xb3 (0x28 ∷ 0x29 ∷ 0x2a ∷ 0x2b ∷ [])
      ∷ []

-- A node of the type END with an unknown subtype.
abbrev pub unknown_end : Node
unknown_end = node 0x7f 0x02 []

-- A node of the type END ends an instance, whatever its subtype is; only END_ENTIRE ends the path.
pub record AnyEnd : Type 0 where
  pub path : IsPath (unknown_end ∷ end_entire ∷ [])
  pub instances : AreInstances ((unknown_end ∷ []) ∷ (end_entire ∷ []) ∷ []) (unknown_end ∷ end_entire ∷ [])
  pub bytes : joined (unknown_end ∷ end_entire ∷ []) ≡ 0x7f ∷ 0x02 ∷ 4 ∷ 0 ∷ 0x7f ∷ 0xff ∷ 4 ∷ 0 ∷ []
  pub nodes : all_but_last (unknown_end ∷ end_entire ∷ []) ≡ unknown_end ∷ []

-- The nodes of a path of one end-entire node, which has two bytes of data.
abbrev pub end_with_data : List Node
end_with_data = node 0x7f 0xff (0xaa ∷ 0xbb ∷ []) ∷ []

-- The end-entire node may have data, and bytes may follow the path. The path is its one instance, and has no node
-- before its end.
pub record EndWithData : Type 0 where
  pub path : IsPath end_with_data
  pub prefix : IsPrefix (joined end_with_data) (0x7f ∷ 0xff ∷ 6 ∷ 0 ∷ 0xaa ∷ 0xbb ∷ 0xcc ∷ [])
  pub instances : AreInstances (end_with_data ∷ []) end_with_data
  pub nodes : all_but_last end_with_data ≡ []

-- No bytes; a length below 4; a length beyond the end of the bytes; no end-entire node.
pub record NoPath : Type 0 where
  pub empty : ¬ HasPath []
  pub short : ¬ HasPath (0xa0 ∷ 0xb0 ∷ 3 ∷ 0 ∷ [])
  pub long : ¬ HasPath (0xa0 ∷ 0xb0 ∷ 0xff ∷ 0xff ∷ [])
  pub endless : ¬ HasPath (0xa0 ∷ 0xb0 ∷ 6 ∷ 0 ∷ 0x0a ∷ 0x0b ∷ [])

-- A node with two bytes of data; with a length beyond the end of the bytes or below 4 there is none.
pub record Nodes : Type 0 where
  pub fits : Fits (node 0xa0 0xb0 (0x0a ∷ 0x0b ∷ []))
  pub prefix : IsPrefix (encoding (node 0xa0 0xb0 (0x0a ∷ 0x0b ∷ []))) (0xa0 ∷ 0xb0 ∷ 6 ∷ 0 ∷ 0x0a ∷ 0x0b ∷ [])
  pub long : ¬ HasNode (0xa0 ∷ 0xb0 ∷ 7 ∷ 0 ∷ 0x0a ∷ 0x0b ∷ [])
  pub short : ¬ HasNode (0xa0 ∷ 0xb0 ∷ 3 ∷ 0 ∷ 0x0a ∷ 0x0b ∷ [])

-- The numbers of the types and subtypes that have a name (UEFI 2.10, 10.3).
pub record TypeNumbers : Type 0 where
  pub types : (HARDWARE.0 ≡ 1) × (ACPI.0 ≡ 2) × (MESSAGING.0 ≡ 3) × (MEDIA.0 ≡ 4) × (BIOS_BOOT_SPEC.0 ≡ 5)
      × (END.0 ≡ 0x7f)
  pub sub_types : (END_INSTANCE.0 ≡ 1) × (END_ENTIRE.0 ≡ 0xff)

-- The numbers of the subtypes of each other type (UEFI 2.10, 10.3.2 to 10.3.6).
pub record SubTypeNumbers : Type 0 where
  pub hardware : (SubType.HARDWARE_PCI.0 ≡ 1) × (SubType.HARDWARE_PCCARD.0 ≡ 2)
      × (SubType.HARDWARE_MEMORY_MAPPED.0 ≡ 3) × (SubType.HARDWARE_VENDOR.0 ≡ 4)
      × (SubType.HARDWARE_CONTROLLER.0 ≡ 5) × (SubType.HARDWARE_BMC.0 ≡ 6)
  pub acpi : (SubType.ACPI.0 ≡ 1) × (SubType.ACPI_EXPANDED.0 ≡ 2) × (SubType.ACPI_ADR.0 ≡ 3)
      × (SubType.ACPI_NVDIMM.0 ≡ 4)
  pub messaging : (SubType.MESSAGING_ATAPI.0 ≡ 1) × (SubType.MESSAGING_SCSI.0 ≡ 2)
      × (SubType.MESSAGING_FIBRE_CHANNEL.0 ≡ 3) × (SubType.MESSAGING_1394.0 ≡ 4) × (SubType.MESSAGING_USB.0 ≡ 5)
      × (SubType.MESSAGING_I2O.0 ≡ 6) × (SubType.MESSAGING_INFINIBAND.0 ≡ 9)
      × (SubType.MESSAGING_VENDOR.0 ≡ 0x0a) × (SubType.MESSAGING_MAC_ADDRESS.0 ≡ 0x0b)
      × (SubType.MESSAGING_IPV4.0 ≡ 0x0c) × (SubType.MESSAGING_IPV6.0 ≡ 0x0d)
      × (SubType.MESSAGING_UART.0 ≡ 0x0e) × (SubType.MESSAGING_USB_CLASS.0 ≡ 0x0f)
      × (SubType.MESSAGING_USB_WWID.0 ≡ 0x10) × (SubType.MESSAGING_DEVICE_LOGICAL_UNIT.0 ≡ 0x11)
      × (SubType.MESSAGING_SATA.0 ≡ 0x12) × (SubType.MESSAGING_ISCSI.0 ≡ 0x13)
      × (SubType.MESSAGING_VLAN.0 ≡ 0x14) × (SubType.MESSAGING_FIBRE_CHANNEL_EX.0 ≡ 0x15)
      × (SubType.MESSAGING_SCSI_SAS_EX.0 ≡ 0x16) × (SubType.MESSAGING_NVME_NAMESPACE.0 ≡ 0x17)
      × (SubType.MESSAGING_URI.0 ≡ 0x18) × (SubType.MESSAGING_UFS.0 ≡ 0x19) × (SubType.MESSAGING_SD.0 ≡ 0x1a)
      × (SubType.MESSAGING_BLUETOOTH.0 ≡ 0x1b) × (SubType.MESSAGING_WIFI.0 ≡ 0x1c)
      × (SubType.MESSAGING_EMMC.0 ≡ 0x1d) × (SubType.MESSAGING_BLUETOOTH_LE.0 ≡ 0x1e)
      × (SubType.MESSAGING_DNS.0 ≡ 0x1f) × (SubType.MESSAGING_NVDIMM_NAMESPACE.0 ≡ 0x20)
      × (SubType.MESSAGING_REST_SERVICE.0 ≡ 0x21) × (SubType.MESSAGING_NVME_OF_NAMESPACE.0 ≡ 0x22)
  pub media : (SubType.MEDIA_HARD_DRIVE.0 ≡ 1) × (SubType.MEDIA_CD_ROM.0 ≡ 2) × (SubType.MEDIA_VENDOR.0 ≡ 3)
      × (SubType.MEDIA_FILE_PATH.0 ≡ 4) × (SubType.MEDIA_PROTOCOL.0 ≡ 5)
      × (SubType.MEDIA_PIWG_FIRMWARE_FILE.0 ≡ 6) × (SubType.MEDIA_PIWG_FIRMWARE_VOLUME.0 ≡ 7)
      × (SubType.MEDIA_RELATIVE_OFFSET_RANGE.0 ≡ 8) × (SubType.MEDIA_RAM_DISK.0 ≡ 9)
  pub bios_boot : (SubType.BIOS_BOOT_SPECIFICATION.0 ≡ 1)

-- All rows hold.
abbrev pub RowsHold : Type 0
RowsHold = TwoInstances × AnyEnd × EndWithData × NoPath × Nodes × TypeNumbers × SubTypeNumbers
