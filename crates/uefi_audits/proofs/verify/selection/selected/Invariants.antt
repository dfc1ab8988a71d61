use Rattle.std.proofs.Common.{List, length}
use Rattle.uefi_audits.specs.declared.verify.selection.Range.{Range}
use Rattle.uefi_audits.specs.private.verify.Selected.{AreNamed}
use Rattle.uefi_audits.proofs.verify.Selections.{GoesOn}
use Rattle.uefi_audits.proofs.verify.selection.selected.Given as goal

-- The items so far name these PCRs.
abbrev pub invariant-loop-item : goal.invariant-loop-item
invariant-loop-item l = (ranges : List Range) × GoesOn l.items ranges l.rest × AreNamed ranges l.pcrs

abbrev pub decreases-loop-item : goal.decreases-loop-item
decreases-loop-item l = length l.rest
