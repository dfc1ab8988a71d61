use Rattle.std.proofs.Common.{arith}
use Rattle.pcr_replay.specs.Banks.{all_banks}
use Rattle.pcr_replay.specs.declared.bank.Bank.TheVariants.{Sha1}
use Rattle.uefi_audits.specs.verify.Missing.{missing_of}
use Rattle.uefi_audits.proofs.FirstOnes.{one_joined}
use Rattle.uefi_audits.proofs.verify.missing.missing_pcrs.Goals as goal

pub loop-bank-preserved : goal.loop-bank-preserved
loop-bank-preserved g c =
    one_joined (missing_of c.args.selections.now c.args.stated.now) all_banks c.loop-bank.missing.items
    c.push_missing.new.missing.items c.loop-bank.bank-index Sha1 (omega (arith, c.loop-bank-test.true))
    c.loop-bank.invariant c.in_ok-push_missing.ensures
