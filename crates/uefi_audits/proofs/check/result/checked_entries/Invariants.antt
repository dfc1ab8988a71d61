use Rattle.std.proofs.Common.{map, take}
use Rattle.std.specs.Option.{option_map}
use Rattle.uefi_tcg.specs.LogViews.{entry_of}
use Rattle.uefi_audits.specs.Findings.{AreFindings}
use Rattle.uefi_audits.specs.private.Counting.{finding_of}
use Rattle.uefi_audits.proofs.check.result.checked_entries.Given as goal

-- They are those found of the events so far.
abbrev pub invariant-loop-entry : goal.invariant-loop-entry
invariant-loop-entry g l =
    AreFindings (option_map (λ pcrs. pcrs.now) l.covered) (map entry_of (take l.entry-index l.entries))
    (map finding_of l.found.items)
