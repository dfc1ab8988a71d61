-- The forms of nodes of the type MEDIA (UEFI 2.10, 10.6.1.6).
use Rattle.std.specs.Prelude.{ℕ, [], ◌∷◌, List, codes, replicate}
use Rattle.uefi_path_text.specs.form.NodeForm.{NodeForm, form, displaying, reserving, known, listed, bytes, argument}
use Rattle.uefi_path_text.specs.form.Parameters.{decimal_u16, decimal_u32, guid, optional, required, u32, u64, vendor_data, zero}
use Rattle.uefi_path_text.specs.declared.form.argument.Argument.TheVariants.{Number, Word}
use Rattle.uefi_path_text.specs.declared.form.argument.Base.TheVariants as Base
use Rattle.uefi_path_text.specs.declared.form.words.Words.TheVariants as Words
use Rattle.uefi_path_text.specs.declared.form.size.Size.TheVariants as Size

-- The GUIDs of disks and CDs in RAM (UEFI 2.10, 10.3.5.9).
abbrev pub virtual_disk : List ℕ
virtual_disk =
    0x5a ∷ 0x53 ∷ 0xab ∷ 0x77 ∷ 0xfc ∷ 0x45 ∷ 0x4b ∷ 0x62 ∷ 0x55 ∷ 0x60 ∷ 0xf7 ∷ 0xb2 ∷ 0x81 ∷ 0xd1 ∷ 0xf9 ∷ 0x6e ∷
    []

abbrev pub virtual_cd : List ℕ
virtual_cd =
    0x30 ∷ 0xbd ∷ 0x5a ∷ 0x3d ∷ 0x75 ∷ 0x41 ∷ 0xce ∷ 0x87 ∷ 0x6d ∷ 0x64 ∷ 0xd2 ∷ 0xad ∷ 0xe5 ∷ 0x23 ∷ 0xc4 ∷ 0xbb ∷
    []

abbrev pub persistent_virtual_disk : List ℕ
persistent_virtual_disk =
    0xc9 ∷ 2 ∷ 0xea ∷ 0x5c ∷ 7 ∷ 0x4d ∷ 0xd3 ∷ 0x69 ∷ 0x26 ∷ 0x9f ∷ 0x44 ∷ 0x96 ∷ 0xfb ∷ 0xe0 ∷ 0x96 ∷ 0xf9 ∷ []

abbrev pub persistent_virtual_cd : List ℕ
persistent_virtual_cd =
    0x88 ∷ 0x81 ∷ 1 ∷ 8 ∷ 0xcd ∷ 0x42 ∷ 0x48 ∷ 0xbb ∷ 0x10 ∷ 0x0f ∷ 0x53 ∷ 0x87 ∷ 0xd5 ∷ 0x3d ∷ 0xed ∷ 0x3d ∷ []

abbrev pub media_forms : List NodeForm
media_forms =
    reserving 4 (displaying 0 3 (form (codes "HD") (known 4) (known 1) (listed (decimal_u32 ∷ required (Word Words.Mbr Size.One)
    ∷ optional (Number Size.Four Base.LongHex) (codes "0") ∷ u64 ∷ u64 ∷ []) (argument 0 ∷ argument 3 ∷ argument 4 ∷
    argument 2 ∷ bytes (replicate 12 0) ∷ argument 1 ∷ bytes (1 ∷ []) ∷ []))))
    ∷ displaying 0 3 (form (codes "HD") (known 4) (known 1) (listed (decimal_u32 ∷ required (Word Words.Gpt
    Size.One) ∷ guid ∷ u64 ∷ u64 ∷ []) (argument 0 ∷ argument 3 ∷ argument 4 ∷ argument 2 ∷ argument 1 ∷ bytes (2 ∷
    []) ∷ [])))
    ∷ reserving 3 (displaying 0 3 (form (codes "HD") (known 4) (known 1) (listed (decimal_u32 ∷ required (Number Size.One
    Base.Decimal) ∷ zero ∷ u64 ∷ u64 ∷ []) (argument 0 ∷ argument 3 ∷ argument 4 ∷ bytes (replicate 17 0) ∷
    argument 1 ∷ []))))
    ∷ displaying 0 1 (form (codes "CDROM") (known 4) (known 2) (listed (u32 ∷ u64 ∷ u64 ∷ []) (argument 0 ∷ argument
    1 ∷ argument 2 ∷ [])))
    ∷ form (codes "VenMedia") (known 4) (known 3) (listed (guid ∷ vendor_data ∷ []) (argument 0 ∷ argument 1 ∷ []))
    ∷ form (codes "Media") (known 4) (known 5) (listed (guid ∷ []) (argument 0 ∷ []))
    ∷ form (codes "FvFile") (known 4) (known 6) (listed (guid ∷ []) (argument 0 ∷ []))
    ∷ form (codes "Fv") (known 4) (known 7) (listed (guid ∷ []) (argument 0 ∷ []))
    ∷ reserving 0 (form (codes "Offset") (known 4) (known 8) (listed (u64 ∷ u64 ∷ []) (bytes (replicate 4 0) ∷ argument 0 ∷
    argument 1 ∷ [])))
    ∷ form (codes "VirtualDisk") (known 4) (known 9) (listed (u64 ∷ u64 ∷ decimal_u16 ∷ []) (argument 0 ∷ argument 1
    ∷ bytes virtual_disk ∷ argument 2 ∷ []))
    ∷ form (codes "VirtualCD") (known 4) (known 9) (listed (u64 ∷ u64 ∷ decimal_u16 ∷ []) (argument 0 ∷ argument 1 ∷
    bytes virtual_cd ∷ argument 2 ∷ []))
    ∷ form (codes "PersistentVirtualDisk") (known 4) (known 9) (listed (u64 ∷ u64 ∷ decimal_u16 ∷ []) (argument 0 ∷
    argument 1 ∷ bytes persistent_virtual_disk ∷ argument 2 ∷ []))
    ∷ form (codes "PersistentVirtualCD") (known 4) (known 9) (listed (u64 ∷ u64 ∷ decimal_u16 ∷ []) (argument 0 ∷
    argument 1 ∷ bytes persistent_virtual_cd ∷ argument 2 ∷ []))
    ∷ form (codes "RamDisk") (known 4) (known 9) (listed (u64 ∷ u64 ∷ decimal_u16 ∷ guid ∷ []) (argument 0 ∷
    argument 1 ∷ argument 3 ∷ argument 2 ∷ []))
    ∷ []
