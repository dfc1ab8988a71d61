-- The forms of nodes of any type (UEFI 2.10, 10.6.1.6).
use Rattle.std.specs.Prelude.{[], ◌∷◌, List, codes}
use Rattle.uefi_path_text.specs.form.NodeForm.{NodeForm, form, known, stated, listed, argument}
use Rattle.uefi_path_text.specs.form.Parameters.{node_data, u8}

abbrev pub generic_forms : List NodeForm
generic_forms =
    form (codes "Path") (stated 0) (stated 1) (listed (u8 ∷ u8 ∷ node_data ∷ []) (argument 2 ∷ []))
    ∷ form (codes "HardwarePath") (known 1) (stated 0) (listed (u8 ∷ node_data ∷ []) (argument 1 ∷ []))
    ∷ form (codes "AcpiPath") (known 2) (stated 0) (listed (u8 ∷ node_data ∷ []) (argument 1 ∷ []))
    ∷ form (codes "Msg") (known 3) (stated 0) (listed (u8 ∷ node_data ∷ []) (argument 1 ∷ []))
    ∷ form (codes "MediaPath") (known 4) (stated 0) (listed (u8 ∷ node_data ∷ []) (argument 1 ∷ []))
    ∷ form (codes "BbsPath") (known 5) (stated 0) (listed (u8 ∷ node_data ∷ []) (argument 1 ∷ []))
    ∷ []
