-- The forms of nodes that are for display alone (UEFI 2.10, 10.6.1.6).
use Rattle.std.specs.Prelude.{[], ◌∷◌, List, codes}
use Rattle.uefi_path_text.specs.form.NodeForm.{NodeForm, form, displaying, known, listed, bytes, argument}
use Rattle.uefi_path_text.specs.form.Parameters.{eisa_id, eisa_letters, some_string, string, u32, zero_u32}

abbrev pub display_forms : List NodeForm
display_forms =
    displaying 4 1 (form (codes "PciRoot") (known 2) (known 2) (listed (eisa_letters ∷ u32 ∷ eisa_id ∷ string ∷
    string ∷ string ∷ []) (argument 0 ∷ bytes (3 ∷ 0x0a ∷ []) ∷ argument 1 ∷ argument 2 ∷ argument 3 ∷ bytes (0 ∷
    []) ∷ argument 4 ∷ bytes (0 ∷ []) ∷ argument 5 ∷ bytes (0 ∷ []) ∷ [])))
    ∷ displaying 4 1 (form (codes "PcieRoot") (known 2) (known 2) (listed (eisa_letters ∷ u32 ∷ eisa_id ∷ string ∷
    string ∷ string ∷ []) (argument 0 ∷ bytes (8 ∷ 0x0a ∷ []) ∷ argument 1 ∷ argument 2 ∷ argument 3 ∷ bytes (0 ∷
    []) ∷ argument 4 ∷ bytes (0 ∷ []) ∷ argument 5 ∷ bytes (0 ∷ []) ∷ [])))
    ∷ displaying 4 1 (form (codes "PciRoot") (known 2) (known 2) (listed (eisa_id ∷ u32 ∷ eisa_letters ∷ string ∷
    string ∷ string ∷ []) (argument 0 ∷ argument 1 ∷ argument 2 ∷ bytes (3 ∷ 0x0a ∷ []) ∷ argument 3 ∷ bytes (0 ∷
    []) ∷ argument 4 ∷ bytes (0 ∷ []) ∷ argument 5 ∷ bytes (0 ∷ []) ∷ [])))
    ∷ displaying 4 1 (form (codes "PcieRoot") (known 2) (known 2) (listed (eisa_id ∷ u32 ∷ eisa_letters ∷ string ∷
    string ∷ string ∷ []) (argument 0 ∷ argument 1 ∷ argument 2 ∷ bytes (8 ∷ 0x0a ∷ []) ∷ argument 3 ∷ bytes (0 ∷
    []) ∷ argument 4 ∷ bytes (0 ∷ []) ∷ argument 5 ∷ bytes (0 ∷ []) ∷ [])))
    ∷ displaying 0 3 (form (codes "AcpiExp") (known 2) (known 2) (listed (eisa_id ∷ zero_u32 ∷ some_string ∷ u32 ∷
    []) (argument 0 ∷ argument 3 ∷ argument 1 ∷ bytes (0 ∷ []) ∷ argument 2 ∷ bytes (0 ∷ []) ∷ bytes (0 ∷ []) ∷
    [])))
    ∷ displaying 0 3 (form (codes "AcpiExp") (known 2) (known 2) (listed (eisa_id ∷ eisa_id ∷ some_string ∷ u32 ∷
    []) (argument 0 ∷ argument 3 ∷ argument 1 ∷ bytes (0 ∷ []) ∷ argument 2 ∷ bytes (0 ∷ []) ∷ bytes (0 ∷ []) ∷
    [])))
    ∷ []
