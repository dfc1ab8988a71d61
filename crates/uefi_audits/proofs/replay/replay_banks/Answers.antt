use Rattle.std.proofs.Common.{◌∙◌, ap, arith, map}
use Rattle.uefi_tcg.specs.LogViews.{entry_of}
use Rattle.pcr_replay.specs.BankReplays.{bank_outcomes_of, replayed}
use Rattle.uefi_audits.proofs.FirstOnes.{all_taken, one_mapped}
use Rattle.uefi_audits.proofs.replay.replay_banks.Goals as goal

pub loop-bank-preserved : goal.loop-bank-preserved
loop-bank-preserved g c =
    one_mapped bank_outcomes_of (replayed c.args.start.now (map entry_of c.args.entries.now)) c.args.banks.now
    c.loop-bank.found.items c.push.new.self.items _ c.loop-bank.bank-index _
    (omega (arith, c.loop-bank-test.true)) c.loop-bank.invariant
    c.replay_bank.ensures
    c.in_ok-push.ensures.items

pub returns : goal.returns
returns g c = c.loop-bank.invariant
    ∙ ap (map (replayed c.args.start.now (map entry_of c.args.entries.now)))
    (all_taken c.args.banks.now c.loop-bank.bank-index (omega (arith, c.loop-bank-test.false)))
