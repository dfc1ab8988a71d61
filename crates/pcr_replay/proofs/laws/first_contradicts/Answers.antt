use Rattle.pcr_replay.proofs.Contradicting.{first_contradicts}
use Rattle.pcr_replay.proofs.laws.first_contradicts.Goals as goal

pub returns : goal.returns
returns c = first_contradicts
