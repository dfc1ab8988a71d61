use Rattle.std.proofs.Common.{◌≡◌}
use Rattle.tpm_quote.specs.PcrSelection.{is_selected}
use Rattle.tpm_quote.specs.Views.{selection_of}
use Rattle.uefi_c.proofs.QuoteSets.{set_below}
use Rattle.uefi_c.proofs.quote.set_of.Given as goal

-- The set has those before the next PCR.
abbrev pub invariant-loop-pcr : goal.invariant-loop-pcr
invariant-loop-pcr l = l.set ≡ set_below (is_selected (selection_of l.selection)) l.pcr
