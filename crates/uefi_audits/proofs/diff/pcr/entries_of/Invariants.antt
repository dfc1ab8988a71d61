use Rattle.std.proofs.Common.{◌≡◌, map, take}
use Rattle.uefi_audits.specs.diff.Numbered.{of_pcr}
use Rattle.uefi_audits.specs.diff.Views.{numbered_of}
use Rattle.uefi_audits.specs.private.diff.Ranks.{numbered_at}
use Rattle.uefi_audits.proofs.diff.pcr.entries_of.Given as goal

-- They are those of the PCR so far.
abbrev pub invariant-loop-entry : goal.invariant-loop-entry
invariant-loop-entry l =
    map numbered_at l.found.items ≡ of_pcr l.pcr (map numbered_of (take l.entry-index l.all))
