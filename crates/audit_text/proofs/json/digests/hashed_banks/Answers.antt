use Rattle.std.proofs.Common.{arith}
use Rattle.uefi_tcg.specs.LogViews.{event_of}
use Rattle.pcr_replay.specs.Banks.{all_banks}
use Rattle.pcr_replay.specs.declared.bank.Bank.TheVariants.{Sha1}
use Rattle.audit_text.specs.json.Event.{hashed_bank}
use Rattle.audit_text.proofs.json.Values.{values_joined}
use Rattle.audit_text.proofs.json.digests.hashed_banks.Goals as goal

pub loop-bank-preserved : goal.loop-bank-preserved
loop-bank-preserved c =
    values_joined all_banks c.loop-bank.bank-index Sha1 (omega (arith, c.loop-bank-test.true))
    (hashed_bank (event_of c.args.event.now)) _ _ c.loop-bank.invariant c.in_ok-push_hashed.ensures
