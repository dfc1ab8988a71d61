use Rattle.std.proofs.Common.{drop, map}
use Rattle.uefi_tcg.specs.LogViews.{entry_of}
use Rattle.uefi_audits.specs.diff.Views.{numbered_of}
use Rattle.uefi_audits.proofs.diff.Numbering.{NumberedSoFar}
use Rattle.uefi_audits.proofs.diff.pcr.numbered_entries.Given as goal

-- Those so far and those to come are all.
abbrev pub invariant-loop-index : goal.invariant-loop-index
invariant-loop-index l =
    NumberedSoFar l.uintn_size (map numbered_of l.found.items) l.index (map entry_of (drop l.index l.entries))
    (map entry_of l.entries)
