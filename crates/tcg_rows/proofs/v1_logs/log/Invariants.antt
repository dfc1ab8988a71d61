use Rattle.std.proofs.Common.{length}
use Rattle.tcg_rows.proofs.v1_logs.log.Given as goal

abbrev pub decreases-loop-event : goal.decreases-loop-event
decreases-loop-event l = length l.events.events
