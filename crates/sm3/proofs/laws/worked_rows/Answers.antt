use Rattle.sm3.proofs.Rows.{rows_hold}
use Rattle.sm3.proofs.laws.worked_rows.Goals as goal

pub returns : goal.returns
returns c = rows_hold
