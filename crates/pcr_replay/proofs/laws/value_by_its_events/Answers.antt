use Rattle.pcr_replay.proofs.Rules.{value_by_rules}
use Rattle.pcr_replay.proofs.laws.value_by_its_events.Goals as goal

pub returns : goal.returns
returns c = value_by_rules
