use Rattle.std.proofs.Common.{◌-◌, length}
use Rattle.uefi_tcg.specs.v2.Reading.{rows_in}
use Rattle.uefi_c.proofs.Log2Steps.{Found}
use Rattle.uefi_c.proofs.callers.log2.events_from.Given as goal

abbrev pub invariant-loop-event : goal.invariant-loop-event
invariant-loop-event g l = Found (rows_in l.rows) l.last_entry l.log l.start l.offset l.views.items

abbrev pub decreases-loop-event : goal.decreases-loop-event
decreases-loop-event g l = length l.log - l.offset
