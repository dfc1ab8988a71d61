use Rattle.std.proofs.Common.{rules}
use Rattle.uefi_audits.proofs.verify.Agreement.{its_bank, no_bank_left, other_bank}
use Rattle.uefi_audits.proofs.verify.comparison.pcrs_of.Goals as goal

pub returns-then-eq : goal.returns-then-eq
returns-then-eq c =
    its_bank c.args.replays.now c.args.bank c.loop-found.found-index c.found-item.result _ c.loop-found-test.true
    c.found-item.is (search rules) c.loop-found.invariant

pub loop-found-preserved : goal.loop-found-preserved
loop-found-preserved c =
    other_bank c.args.replays.now c.args.bank c.loop-found.found-index c.found-item.result _ c.loop-found-test.true
    c.found-item.is (search rules) c.loop-found.invariant

pub returns : goal.returns
returns c =
    no_bank_left c.args.replays.now c.args.bank c.loop-found.found-index _ c.loop-found-test.false c.loop-found.invariant
