-- The forms of nodes of vendors (UEFI 2.10, 10.6.1.6).
use Rattle.std.specs.Prelude.{ℕ, [], ◌∷◌, List, codes}
use Rattle.uefi_path_text.specs.form.NodeForm.{NodeForm, form, shortcut, known, listed, bytes, argument, sum}
use Rattle.uefi_path_text.specs.form.Parameters.{drive_bay, guid, no_topology, optional, sas_connection, sas_interface, sas_location, u16, u32, u64, vendor_data, zero}
use Rattle.uefi_path_text.specs.declared.form.argument.Argument.TheVariants.{Word}
use Rattle.uefi_path_text.specs.declared.form.words.Words.TheVariants as Words
use Rattle.uefi_path_text.specs.declared.form.size.Size.TheVariants as Size

-- The GUIDs of vendors whose nodes have forms of their own (UEFI 2.10, 10.3.4.17 to 10.3.4.19).
abbrev pub pc_ansi : List ℕ
pc_ansi =
    0x53 ∷ 0x47 ∷ 0xc1 ∷ 0xe0 ∷ 0xbe ∷ 0xf9 ∷ 0xd2 ∷ 0x11 ∷ 0x9a ∷ 0x0c ∷ 0 ∷ 0x90 ∷ 0x27 ∷ 0x3f ∷ 0xc1 ∷ 0x4d ∷ []

abbrev pub vt100 : List ℕ
vt100 =
    0x65 ∷ 0x60 ∷ 0xa6 ∷ 0xdf ∷ 0x19 ∷ 0xb4 ∷ 0xd3 ∷ 0x11 ∷ 0x9a ∷ 0x2d ∷ 0 ∷ 0x90 ∷ 0x27 ∷ 0x3f ∷ 0xc1 ∷ 0x4d ∷ []

abbrev pub vt100_plus : List ℕ
vt100_plus =
    0x0b ∷ 0xc7 ∷ 0xae ∷ 0x7b ∷ 0xe0 ∷ 0x57 ∷ 0x76 ∷ 0x4c ∷ 0x8e ∷ 0x87 ∷ 0x2f ∷ 0x9e ∷ 0x28 ∷ 8 ∷ 0x83 ∷ 0x43 ∷ []

abbrev pub utf8 : List ℕ
utf8 =
    0xd6 ∷ 0xa0 ∷ 0x15 ∷ 0xad ∷ 0xec ∷ 0x8b ∷ 0xcf ∷ 0x4a ∷ 0xa0 ∷ 0x73 ∷ 0xd0 ∷ 0x1d ∷ 0xe7 ∷ 0x7e ∷ 0x2d ∷ 0x88 ∷
    []

abbrev pub debug_port : List ℕ
debug_port =
    0xd2 ∷ 0xe8 ∷ 0xa4 ∷ 0xeb ∷ 0x58 ∷ 0x38 ∷ 0xec ∷ 0x41 ∷ 0xa2 ∷ 0x81 ∷ 0x26 ∷ 0x47 ∷ 0xba ∷ 0x96 ∷ 0x60 ∷ 0xd0 ∷
    []

abbrev pub uart_flow_control : List ℕ
uart_flow_control =
    0x9d ∷ 0x9a ∷ 0x49 ∷ 0x37 ∷ 0x2f ∷ 0x54 ∷ 0x89 ∷ 0x4c ∷ 0xa0 ∷ 0x26 ∷ 0x35 ∷ 0xda ∷ 0x14 ∷ 0x20 ∷ 0x94 ∷ 0xe4 ∷
    []

abbrev pub sas : List ℕ
sas =
    0xb4 ∷ 0xdd ∷ 0x87 ∷ 0xd4 ∷ 0x8b ∷ 0 ∷ 0xd9 ∷ 0x11 ∷ 0xaf ∷ 0xdc ∷ 0 ∷ 0x10 ∷ 0x83 ∷ 0xff ∷ 0xca ∷ 0x4d ∷ []

abbrev pub vendor_forms : List NodeForm
vendor_forms =
    shortcut (form (codes "VenPcAnsi") (known 3) (known 10) (listed [] (bytes pc_ansi ∷ [])))
    ∷ shortcut (form (codes "VenVt100") (known 3) (known 10) (listed [] (bytes vt100 ∷ [])))
    ∷ shortcut (form (codes "VenVt100Plus") (known 3) (known 10) (listed [] (bytes vt100_plus ∷ [])))
    ∷ shortcut (form (codes "VenUtf8") (known 3) (known 10) (listed [] (bytes utf8 ∷ [])))
    ∷ shortcut (form (codes "DebugPort") (known 3) (known 10) (listed [] (bytes debug_port ∷ [])))
    ∷ shortcut (form (codes "UartFlowCtrl") (known 3) (known 10) (listed (optional (Word Words.FlowControl
    Size.Four) (codes "None") ∷ []) (bytes uart_flow_control ∷ argument 0 ∷ [])))
    ∷ shortcut (form (codes "SAS") (known 3) (known 10) (listed (u64 ∷ u64 ∷ u16 ∷ no_topology ∷ zero ∷ zero ∷ zero
    ∷ u32 ∷ []) (bytes sas ∷ argument 7 ∷ argument 0 ∷ argument 1 ∷ argument 3 ∷ argument 2 ∷ [])))
    ∷ shortcut (form (codes "SAS") (known 3) (known 10) (listed (u64 ∷ u64 ∷ u16 ∷ sas_interface ∷ sas_location ∷
    sas_connection ∷ drive_bay ∷ u32 ∷ []) (bytes sas ∷ argument 7 ∷ argument 0 ∷ argument 1 ∷ sum 3 4 ∷ argument 2
    ∷ [])))
    ∷ shortcut (form (codes "SAS") (known 3) (known 10) (listed (u64 ∷ u64 ∷ u16 ∷ u16 ∷ zero ∷ zero ∷ zero ∷ u32 ∷
    []) (bytes sas ∷ argument 7 ∷ argument 0 ∷ argument 1 ∷ argument 3 ∷ argument 2 ∷ [])))
    ∷ form (codes "VenMsg") (known 3) (known 10) (listed (guid ∷ vendor_data ∷ []) (argument 0 ∷ argument 1 ∷ []))
    ∷ []
