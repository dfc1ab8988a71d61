use Rattle.std.proofs.Common.{append_assoc}
use Rattle.uefi_records.proofs.time.error.TimeErrorDisplay.fmt.Goals as goal

pub returns-clause-writes : goal.returns-clause-writes
returns-clause-writes g c = λ plain written. simp append_assoc (c.write.ensures.writes plain written)
