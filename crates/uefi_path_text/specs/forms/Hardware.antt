-- The forms of nodes of the type HARDWARE (UEFI 2.10, 10.6.1.6).
use Rattle.std.specs.Prelude.{[], ◌∷◌, List, codes}
use Rattle.uefi_path_text.specs.form.NodeForm.{NodeForm, form, known, listed, argument}
use Rattle.uefi_path_text.specs.form.Parameters.{guid, u32, u64, u8, vendor_data}

abbrev pub hardware_forms : List NodeForm
hardware_forms =
    form (codes "Pci") (known 1) (known 1) (listed (u8 ∷ u8 ∷ []) (argument 1 ∷ argument 0 ∷ []))
    ∷ form (codes "PcCard") (known 1) (known 2) (listed (u8 ∷ []) (argument 0 ∷ []))
    ∷ form (codes "MemoryMapped") (known 1) (known 3) (listed (u32 ∷ u64 ∷ u64 ∷ []) (argument 0 ∷ argument 1 ∷
    argument 2 ∷ []))
    ∷ form (codes "VenHw") (known 1) (known 4) (listed (guid ∷ vendor_data ∷ []) (argument 0 ∷ argument 1 ∷ []))
    ∷ form (codes "Ctrl") (known 1) (known 5) (listed (u32 ∷ []) (argument 0 ∷ []))
    ∷ form (codes "BMC") (known 1) (known 6) (listed (u8 ∷ u64 ∷ []) (argument 0 ∷ argument 1 ∷ []))
    ∷ []
