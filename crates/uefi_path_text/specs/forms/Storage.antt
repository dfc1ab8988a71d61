-- The forms of nodes of the type MESSAGING that lead to storage (UEFI 2.10, 10.6.1.6).
use Rattle.std.specs.Prelude.{[], ◌∷◌, List, codes, replicate}
use Rattle.uefi_path_text.specs.form.NodeForm.{NodeForm, form, displaying, reserving, known, listed, bytes, argument, sum}
use Rattle.uefi_path_text.specs.form.Parameters.{big_endian, drive_bay, identifier, no_topology, optional, required, sas_connection, sas_interface, sas_location, string, u16, u32, u64, u8, zero}
use Rattle.uefi_path_text.specs.declared.form.argument.Argument.TheVariants.{Digits, Word}
use Rattle.uefi_path_text.specs.declared.form.words.Words.TheVariants as Words
use Rattle.uefi_path_text.specs.declared.form.size.Size.TheVariants as Size
use Rattle.uefi_path_text.specs.declared.form.shape.Shape.TheVariants as Shape

abbrev pub storage_forms : List NodeForm
storage_forms =
    displaying 2 1 (form (codes "Ata") (known 3) (known 1) (listed (optional (Word Words.Channel Size.One) (codes
    "0") ∷ optional (Word Words.Drive Size.One) (codes "0") ∷ u16 ∷ []) (argument 0 ∷ argument 1 ∷ argument 2 ∷
    [])))
    ∷ form (codes "Scsi") (known 3) (known 2) (listed (u16 ∷ u16 ∷ []) (argument 0 ∷ argument 1 ∷ []))
    ∷ reserving 0 (form (codes "Fibre") (known 3) (known 3) (listed (u64 ∷ u64 ∷ []) (bytes (replicate 4 0) ∷ argument 0 ∷
    argument 1 ∷ [])))
    ∷ reserving 0 (form (codes "FibreEx") (known 3) (known 21) (listed (big_endian ∷ big_endian ∷ []) (bytes (replicate 4 0) ∷
    argument 0 ∷ argument 1 ∷ [])))
    ∷ reserving 0 (form (codes "I1394") (known 3) (known 4) (listed (required (Digits Shape.Ieee1394) ∷ []) (bytes (replicate 4
    0) ∷ argument 0 ∷ [])))
    ∷ form (codes "I2O") (known 3) (known 6) (listed (u32 ∷ []) (argument 0 ∷ []))
    ∷ form (codes "Sata") (known 3) (known 18) (listed (u16 ∷ identifier ∷ u16 ∷ []) (argument 0 ∷ argument 1 ∷
    argument 2 ∷ []))
    ∷ form (codes "Unit") (known 3) (known 17) (listed (u8 ∷ []) (argument 0 ∷ []))
    ∷ form (codes "SasEx") (known 3) (known 22) (listed (big_endian ∷ big_endian ∷ u16 ∷ no_topology ∷ zero ∷ zero ∷
    zero ∷ []) (argument 0 ∷ argument 1 ∷ argument 3 ∷ argument 2 ∷ []))
    ∷ form (codes "SasEx") (known 3) (known 22) (listed (big_endian ∷ big_endian ∷ u16 ∷ sas_interface ∷
    sas_location ∷ sas_connection ∷ drive_bay ∷ []) (argument 0 ∷ argument 1 ∷ sum 3 4 ∷ argument 2 ∷ []))
    ∷ form (codes "SasEx") (known 3) (known 22) (listed (big_endian ∷ big_endian ∷ u16 ∷ u16 ∷ zero ∷ zero ∷ zero ∷
    []) (argument 0 ∷ argument 1 ∷ argument 3 ∷ argument 2 ∷ []))
    ∷ form (codes "iSCSI") (known 3) (known 19) (listed (string ∷ u16 ∷ big_endian ∷ optional (Word
    Words.HeaderDigest Size.Two) (codes "None") ∷ optional (Word Words.DataDigest Size.Two) (codes "None") ∷
    optional (Word Words.Authentication Size.Two) (codes "CHAP_BI") ∷ optional (Word Words.Tcp Size.Two) (codes
    "TCP") ∷ []) (argument 6 ∷ sum 3 3 ∷ argument 2 ∷ argument 1 ∷ argument 0 ∷ bytes (0 ∷ []) ∷ []))
    ∷ form (codes "NVMe") (known 3) (known 23) (listed (u32 ∷ required (Digits Shape.Eui64) ∷ []) (argument 0 ∷
    argument 1 ∷ []))
    ∷ form (codes "UFS") (known 3) (known 25) (listed (u8 ∷ u8 ∷ []) (argument 0 ∷ argument 1 ∷ []))
    ∷ form (codes "SD") (known 3) (known 26) (listed (u8 ∷ []) (argument 0 ∷ []))
    ∷ form (codes "eMMC") (known 3) (known 29) (listed (u8 ∷ []) (argument 0 ∷ []))
    ∷ []
