use Rattle.std.proofs.Common.{length}
use Rattle.uefi_audits.proofs.verify.SelectionLists.{Continues}
use Rattle.uefi_audits.proofs.verify.selection.selections_in.Given as goal

-- The parts so far name these selections.
abbrev pub invariant-loop-part : goal.invariant-loop-part
invariant-loop-part g l = Continues l.text l.selections.items l.rest

abbrev pub decreases-loop-part : goal.decreases-loop-part
decreases-loop-part g l = length l.rest
