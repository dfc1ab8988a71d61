use Rattle.std.proofs.Common.{arith, map}
use Rattle.uefi_tcg.specs.LogViews.{entry_of}
use Rattle.uefi_audits.proofs.verify.Verdicts.{one_restarted}
use Rattle.uefi_audits.proofs.replay.restart_banks.Goals as goal

pub loop-replay-preserved : goal.loop-replay-preserved
loop-replay-preserved g c = λ other banks same.
    one_restarted c.args.start.now other (map entry_of c.args.entries.now) c.args.replays.now c.loop-replay.found.items
    c.push.new.self.items banks c.replay-item.result c.restarted.result c.loop-replay.replay-index
    (omega (arith, c.loop-replay-test.true)) c.replay-item.is same (c.loop-replay.invariant other banks same)
    c.restarted.ensures c.in_ok-push.ensures.items
