-- Which PCRs are marked while ranges are read.
use Rattle.std.specs.Prelude.{ℕ, ◌≡◌, Bool, false, List, slice_index_or}
use Rattle.uefi_audits.specs.declared.verify.selection.Range.{Range}
use Rattle.uefi_audits.specs.verify.Selection.{is_named}

-- Those of these ranges are, among all PCRs.
abbrev pub AreNamed : List Range → List Bool → Type 0
AreNamed ranges pcrs = (pcr : ℕ) → slice_index_or pcrs pcr false ≡ is_named ranges pcr
