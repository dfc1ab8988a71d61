use Rattle.pcr_replay.proofs.OnlyReading.{only_reading}
use Rattle.pcr_replay.proofs.laws.only_reading.Goals as goal

pub returns : goal.returns
returns g c = only_reading _ c.one_contents.ensures
