use Rattle.std.proofs.Common.{rules}
use Rattle.uefi_audits.specs.Replay.{asked}
use Rattle.uefi_audits.proofs.replay.asked_banks.Goals as goal

pub returns-in-Some : goal.returns-in-Some
unfolding asked
returns-in-Some g c = rw c.in-Some.is (search rules)

pub returns-in-None : goal.returns-in-None
unfolding asked
returns-in-None g c = rw c.in-None.is c.active_banks.ensures
