use Rattle.std.proofs.Common.{subst}
use Rattle.uefi_audits.specs.LogReplay.{IsReplayOf}
use Rattle.uefi_audit.proofs.replay.replayed_report.Goals as goal

pub returns : goal.returns
returns c = (
  c.in_ok-replay.replay,
  subst (λ it. IsReplayOf c.args.facts.now c.args.asked.bank it c.in_ok-replay.replay) c.entries.ensures c.in_ok-replay.ensures,
  (λ i. record {
    messages = c.in_ok-push_messages.ensures i;
    text = c.in_ok-text.ensures i;
    status = c.status_of-status.ensures i;
  }),
)
