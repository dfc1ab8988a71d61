-- Nodes of the type MEDIA (UEFI 2.10, 10.3.5), field by field as in the standard's tables.
use Rattle.std.specs.Prelude.{[], ◌∷◌}
use Rattle.uefi_base.specs.Views.{slice_units}
use Rattle.uefi_node.specs.Signature.{type_of_signature, signature_bytes, is_signature}
use Rattle.uefi_node.specs.Layout.{Layout, layout, byte, number, array, two, four, eight, nothing, bytes, units, any}
use Rattle.uefi_node.specs.declared.media.hard_drive.HardDrive.{HardDrive}
use Rattle.uefi_node.specs.declared.media.cd_rom.CdRom.{CdRom}
use Rattle.uefi_node.specs.declared.media.vendor.Vendor.{Vendor}
use Rattle.uefi_node.specs.declared.media.file_path.FilePath.{FilePath}
use Rattle.uefi_node.specs.declared.media.protocol.Protocol.{Protocol}
use Rattle.uefi_node.specs.declared.media.piwg_firmware_file.PiwgFirmwareFile.{PiwgFirmwareFile}
use Rattle.uefi_node.specs.declared.media.piwg_firmware_volume.PiwgFirmwareVolume.{PiwgFirmwareVolume}
use Rattle.uefi_node.specs.declared.media.relative_offset_range.RelativeOffsetRange.{RelativeOffsetRange}
use Rattle.uefi_node.specs.declared.media.ram_disk.RamDisk.{RamDisk}

-- A partition of a hard drive (10.3.5.1): its signature is no unknown one that the standard defines.
abbrev pub hard_drive : Layout HardDrive
hard_drive = record {
  device_type = 4;
  sub_type = 1;
  fields =
      number four (λ h. h.partition_number)
      ∷ number eight (λ h. h.partition_start)
      ∷ number eight (λ h. h.partition_size)
      ∷ array 16 (λ h. signature_bytes h.partition_signature)
      ∷ byte (λ h. h.partition_format.0)
      ∷ byte (λ h. type_of_signature h.partition_signature)
      ∷ [];
  rest = nothing;
  form = any;
  is_value = λ h. is_signature h.partition_signature;
}

-- A boot entry of a CD-ROM (10.3.5.2).
abbrev pub cd_rom : Layout CdRom
cd_rom = layout 4 2 (
    number four (λ c. c.boot_entry)
    ∷ number eight (λ c. c.partition_start)
    ∷ number eight (λ c. c.partition_size)
    ∷ []
    ) nothing

-- A medium that its vendor describes (10.3.5.3).
abbrev pub vendor : Layout Vendor
vendor = layout 4 3 (array 16 (λ v. v.vendor_guid.0) ∷ []) (bytes (λ v. v.vendor_defined_data.now))

-- The path of a file (10.3.5.4).
abbrev pub file_path : Layout FilePath
file_path = layout 4 4 [] (units (λ f. slice_units f.path_name))

-- A protocol of a medium (10.3.5.5).
abbrev pub protocol : Layout Protocol
protocol = layout 4 5 (array 16 (λ p. p.protocol_guid.0) ∷ []) nothing

-- A file of a firmware volume (10.3.5.6).
abbrev pub piwg_firmware_file : Layout PiwgFirmwareFile
piwg_firmware_file = layout 4 6 [] (bytes (λ p. p.data.now))

-- A firmware volume (10.3.5.7).
abbrev pub piwg_firmware_volume : Layout PiwgFirmwareVolume
piwg_firmware_volume = layout 4 7 [] (bytes (λ p. p.data.now))

-- A range of a medium (10.3.5.8).
abbrev pub relative_offset_range : Layout RelativeOffsetRange
relative_offset_range = layout 4 8 (
    number four (λ r. r.reserved)
    ∷ number eight (λ r. r.starting_offset)
    ∷ number eight (λ r. r.ending_offset)
    ∷ []
    ) nothing

-- A RAM disk (10.3.5.9).
abbrev pub ram_disk : Layout RamDisk
ram_disk = layout 4 9 (
    number eight (λ r. r.starting_address)
    ∷ number eight (λ r. r.ending_address)
    ∷ array 16 (λ r. r.disk_type.0.0)
    ∷ number two (λ r. r.disk_instance)
    ∷ []
    ) nothing
