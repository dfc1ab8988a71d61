use Rattle.std.proofs.Common.{length}
use Rattle.tcg_rows.proofs.v2_logs.listed.Given as goal

abbrev pub decreases-loop-event : goal.decreases-loop-event
decreases-loop-event l = length l.events.events
