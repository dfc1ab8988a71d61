use Rattle.std.proofs.Common.{arith}
use Rattle.pcr_replay.specs.Banks.{all_banks}
use Rattle.pcr_replay.specs.declared.bank.Bank.TheVariants.{Sha1}
use Rattle.audit_text.specs.json.Coverage.{of_bank}
use Rattle.audit_text.proofs.json.Values.{values_joined}
use Rattle.audit_text.proofs.json.coverage.by_banks.Goals as goal

pub loop-bank-preserved : goal.loop-bank-preserved
loop-bank-preserved c =
    values_joined all_banks c.loop-bank.bank-index Sha1 (omega (arith, c.loop-bank-test.true)) (of_bank c.args.pcrs.now) _ _
    c.loop-bank.invariant c.in_ok-push_bank.ensures
