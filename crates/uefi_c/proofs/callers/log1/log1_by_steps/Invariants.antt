use Rattle.std.proofs.Common.{◌-◌, length}
use Rattle.uefi_c.proofs.Log1Steps.{Found}
use Rattle.uefi_c.proofs.callers.log1.log1_by_steps.Given as goal

abbrev pub invariant-loop-event : goal.invariant-loop-event
invariant-loop-event g l = Found l.last_entry l.log l.offset l.views.items

abbrev pub decreases-loop-event : goal.decreases-loop-event
decreases-loop-event g l = length l.log - l.offset
