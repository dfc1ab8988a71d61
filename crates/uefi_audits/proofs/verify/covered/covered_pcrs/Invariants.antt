use Rattle.std.proofs.Common.{◌≡◌, ◌++◌}
use Rattle.std.specs.Prelude.{flat_map}
use Rattle.tpm_quote.specs.Views.{selections_left}
use Rattle.uefi_audits.specs.verify.Covered.{covered_by}
use Rattle.uefi_audits.proofs.verify.covered.covered_pcrs.Given as goal

-- The PCRs so far and those of the selections that are left are all.
abbrev pub invariant-loop-selection : goal.invariant-loop-selection
invariant-loop-selection g l =
    l.covered.items ++ flat_map covered_by (selections_left l.selection-iterator)
    ≡ flat_map covered_by (selections_left l.initial.selection-iterator)
