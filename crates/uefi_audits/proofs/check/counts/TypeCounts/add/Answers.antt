use Rattle.std.proofs.Common.{arith}
use Rattle.uefi_audits.proofs.check.counts.TypeCounts.add.Goals as goal

pub overflow_add-self-in-Some-Matches : goal.overflow_add-self-in-Some-Matches
overflow_add-self-in-Some-Matches c =
    rw c.index.ensures.index (let room = c.requires.by_form c.in-Some-Matches.form in omega (arith, room))
