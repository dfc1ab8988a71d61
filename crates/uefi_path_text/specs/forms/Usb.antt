-- The forms of USB nodes (UEFI 2.10, 10.6.1.6).
use Rattle.std.specs.Prelude.{[], ◌∷◌, List, codes}
use Rattle.uefi_path_text.specs.form.NodeForm.{NodeForm, form, known, listed, bytes, argument}
use Rattle.uefi_path_text.specs.form.Parameters.{class, identifier, required, u16, u8}
use Rattle.uefi_path_text.specs.declared.form.argument.Argument.TheVariants.{Quoted}

abbrev pub usb_forms : List NodeForm
usb_forms =
    form (codes "USB") (known 3) (known 5) (listed (u8 ∷ u8 ∷ []) (argument 0 ∷ argument 1 ∷ []))
    ∷ form (codes "UsbWwid") (known 3) (known 16) (listed (u16 ∷ u16 ∷ u16 ∷ required (Quoted) ∷ []) (argument 2 ∷
    argument 0 ∷ argument 1 ∷ argument 3 ∷ []))
    ∷ form (codes "UsbAudio") (known 3) (known 15) (listed (identifier ∷ identifier ∷ class ∷ class ∷ []) (argument
    0 ∷ argument 1 ∷ bytes (1 ∷ []) ∷ argument 2 ∷ argument 3 ∷ []))
    ∷ form (codes "UsbCDCControl") (known 3) (known 15) (listed (identifier ∷ identifier ∷ class ∷ class ∷ [])
    (argument 0 ∷ argument 1 ∷ bytes (2 ∷ []) ∷ argument 2 ∷ argument 3 ∷ []))
    ∷ form (codes "UsbHID") (known 3) (known 15) (listed (identifier ∷ identifier ∷ class ∷ class ∷ []) (argument 0
    ∷ argument 1 ∷ bytes (3 ∷ []) ∷ argument 2 ∷ argument 3 ∷ []))
    ∷ form (codes "UsbImage") (known 3) (known 15) (listed (identifier ∷ identifier ∷ class ∷ class ∷ []) (argument
    0 ∷ argument 1 ∷ bytes (6 ∷ []) ∷ argument 2 ∷ argument 3 ∷ []))
    ∷ form (codes "UsbPrinter") (known 3) (known 15) (listed (identifier ∷ identifier ∷ class ∷ class ∷ [])
    (argument 0 ∷ argument 1 ∷ bytes (7 ∷ []) ∷ argument 2 ∷ argument 3 ∷ []))
    ∷ form (codes "UsbMassStorage") (known 3) (known 15) (listed (identifier ∷ identifier ∷ class ∷ class ∷ [])
    (argument 0 ∷ argument 1 ∷ bytes (8 ∷ []) ∷ argument 2 ∷ argument 3 ∷ []))
    ∷ form (codes "UsbHub") (known 3) (known 15) (listed (identifier ∷ identifier ∷ class ∷ class ∷ []) (argument 0
    ∷ argument 1 ∷ bytes (9 ∷ []) ∷ argument 2 ∷ argument 3 ∷ []))
    ∷ form (codes "UsbCDCData") (known 3) (known 15) (listed (identifier ∷ identifier ∷ class ∷ class ∷ [])
    (argument 0 ∷ argument 1 ∷ bytes (0x0a ∷ []) ∷ argument 2 ∷ argument 3 ∷ []))
    ∷ form (codes "UsbSmartCard") (known 3) (known 15) (listed (identifier ∷ identifier ∷ class ∷ class ∷ [])
    (argument 0 ∷ argument 1 ∷ bytes (0x0b ∷ []) ∷ argument 2 ∷ argument 3 ∷ []))
    ∷ form (codes "UsbVideo") (known 3) (known 15) (listed (identifier ∷ identifier ∷ class ∷ class ∷ []) (argument
    0 ∷ argument 1 ∷ bytes (0x0e ∷ []) ∷ argument 2 ∷ argument 3 ∷ []))
    ∷ form (codes "UsbDiagnostic") (known 3) (known 15) (listed (identifier ∷ identifier ∷ class ∷ class ∷ [])
    (argument 0 ∷ argument 1 ∷ bytes (0xdc ∷ []) ∷ argument 2 ∷ argument 3 ∷ []))
    ∷ form (codes "UsbWireless") (known 3) (known 15) (listed (identifier ∷ identifier ∷ class ∷ class ∷ [])
    (argument 0 ∷ argument 1 ∷ bytes (0xe0 ∷ []) ∷ argument 2 ∷ argument 3 ∷ []))
    ∷ form (codes "UsbDeviceFirmwareUpdate") (known 3) (known 15) (listed (identifier ∷ identifier ∷ class ∷ [])
    (argument 0 ∷ argument 1 ∷ bytes (0xfe ∷ []) ∷ bytes (1 ∷ []) ∷ argument 2 ∷ []))
    ∷ form (codes "UsbIrdaBridge") (known 3) (known 15) (listed (identifier ∷ identifier ∷ class ∷ []) (argument 0 ∷
    argument 1 ∷ bytes (0xfe ∷ []) ∷ bytes (2 ∷ []) ∷ argument 2 ∷ []))
    ∷ form (codes "UsbTestAndMeasurement") (known 3) (known 15) (listed (identifier ∷ identifier ∷ class ∷ [])
    (argument 0 ∷ argument 1 ∷ bytes (0xfe ∷ []) ∷ bytes (3 ∷ []) ∷ argument 2 ∷ []))
    ∷ form (codes "UsbClass") (known 3) (known 15) (listed (identifier ∷ identifier ∷ class ∷ class ∷ class ∷ [])
    (argument 0 ∷ argument 1 ∷ argument 2 ∷ argument 3 ∷ argument 4 ∷ []))
    ∷ []
