-- The forms of nodes of the type ACPI (UEFI 2.10, 10.6.1.6).
use Rattle.std.specs.Prelude.{[], ◌∷◌, List, codes, replicate}
use Rattle.uefi_path_text.specs.form.NodeForm.{NodeForm, form, displaying, known, listed, repeated, bytes, argument}
use Rattle.uefi_path_text.specs.form.Parameters.{eisa_id, required, some_string, string, u32, zero_u32}
use Rattle.uefi_path_text.specs.declared.form.argument.Argument.TheVariants.{Number, PnpId}
use Rattle.uefi_path_text.specs.declared.form.argument.Base.TheVariants as Base
use Rattle.uefi_path_text.specs.declared.form.size.Size.TheVariants as Size

abbrev pub acpi_forms : List NodeForm
acpi_forms =
    form (codes "PciRoot") (known 2) (known 1) (listed (u32 ∷ []) (bytes (0xd0 ∷ 0x41 ∷ 3 ∷ 0x0a ∷ []) ∷ argument 0
    ∷ []))
    ∷ form (codes "PcieRoot") (known 2) (known 1) (listed (u32 ∷ []) (bytes (0xd0 ∷ 0x41 ∷ 8 ∷ 0x0a ∷ []) ∷ argument
    0 ∷ []))
    ∷ form (codes "Floppy") (known 2) (known 1) (listed (u32 ∷ []) (bytes (0xd0 ∷ 0x41 ∷ 4 ∷ 6 ∷ []) ∷ argument 0 ∷
    []))
    ∷ form (codes "Keyboard") (known 2) (known 1) (listed (u32 ∷ []) (bytes (0xd0 ∷ 0x41 ∷ 1 ∷ 3 ∷ []) ∷ argument 0
    ∷ []))
    ∷ form (codes "Serial") (known 2) (known 1) (listed (u32 ∷ []) (bytes (0xd0 ∷ 0x41 ∷ 1 ∷ 5 ∷ []) ∷ argument 0 ∷
    []))
    ∷ form (codes "ParallelPort") (known 2) (known 1) (listed (u32 ∷ []) (bytes (0xd0 ∷ 0x41 ∷ 1 ∷ 4 ∷ []) ∷
    argument 0 ∷ []))
    ∷ form (codes "Acpi") (known 2) (known 1) (listed (required (PnpId) ∷ u32 ∷ []) (argument 0 ∷ argument 1 ∷ []))
    ∷ form (codes "Acpi") (known 2) (known 1) (listed (required (Number Size.Four Base.LongHex) ∷ u32 ∷ [])
    (argument 0 ∷ argument 1 ∷ []))
    ∷ form (codes "AcpiExp") (known 2) (known 2) (listed (eisa_id ∷ zero_u32 ∷ some_string ∷ []) (argument 0 ∷ bytes
    (replicate 4 0) ∷ argument 1 ∷ bytes (0 ∷ []) ∷ argument 2 ∷ bytes (0 ∷ []) ∷ bytes (0 ∷ []) ∷ []))
    ∷ form (codes "AcpiExp") (known 2) (known 2) (listed (eisa_id ∷ eisa_id ∷ some_string ∷ []) (argument 0 ∷ bytes
    (replicate 4 0) ∷ argument 1 ∷ bytes (0 ∷ []) ∷ argument 2 ∷ bytes (0 ∷ []) ∷ bytes (0 ∷ []) ∷ []))
    ∷ displaying 3 3 (form (codes "AcpiEx") (known 2) (known 2) (listed (eisa_id ∷ eisa_id ∷ u32 ∷ string ∷ string ∷
    string ∷ []) (argument 0 ∷ argument 2 ∷ argument 1 ∷ argument 3 ∷ bytes (0 ∷ []) ∷ argument 5 ∷ bytes (0 ∷ []) ∷
    argument 4 ∷ bytes (0 ∷ []) ∷ [])))
    ∷ form (codes "AcpiAdr") (known 2) (known 3) (repeated [] (Number Size.Four Base.Hex))
    ∷ []
