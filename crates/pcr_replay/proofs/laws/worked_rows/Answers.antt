use Rattle.pcr_replay.proofs.Rows.{rows_hold}
use Rattle.pcr_replay.proofs.laws.worked_rows.Goals as goal

pub returns : goal.returns
returns c = rows_hold
