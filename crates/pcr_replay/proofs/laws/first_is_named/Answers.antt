use Rattle.pcr_replay.proofs.Rules.{first_by_rules}
use Rattle.pcr_replay.proofs.laws.first_is_named.Goals as goal

pub returns : goal.returns
returns c = first_by_rules
