use Rattle.pcr_replay.proofs.laws.reading_holds.Goals as goal

pub returns : goal.returns
returns g c = λ read. read.read
