-- The forms of nodes of the type BIOS_BOOT_SPEC (UEFI 2.10, 10.6.1.6).
use Rattle.std.specs.Prelude.{[], ◌∷◌, List, codes}
use Rattle.uefi_path_text.specs.form.NodeForm.{NodeForm, form, displaying, known, listed, bytes, argument}
use Rattle.uefi_path_text.specs.form.Parameters.{optional, required, u16}
use Rattle.uefi_path_text.specs.declared.form.argument.Argument.TheVariants.{Text, Word}
use Rattle.uefi_path_text.specs.declared.form.words.Words.TheVariants as Words
use Rattle.uefi_path_text.specs.declared.form.size.Size.TheVariants as Size

abbrev pub bios_boot_spec_forms : List NodeForm
bios_boot_spec_forms =
    displaying 0 2 (form (codes "BBS") (known 5) (known 1) (listed (optional (Word Words.BootDevice Size.Two) (codes
    "0") ∷ required (Text 65526) ∷ u16 ∷ []) (argument 0 ∷ argument 2 ∷ argument 1 ∷ bytes (0 ∷ []) ∷ [])))
    ∷ []
