use Rattle.std.proofs.Common.{length}
use Rattle.uefi_tcg.specs.LogViews.{entries_left}
use Rattle.tcg_rows.proofs.logs.entries.Given as goal

abbrev pub decreases-loop-entry : goal.decreases-loop-entry
decreases-loop-entry l = length (entries_left l.entries)
