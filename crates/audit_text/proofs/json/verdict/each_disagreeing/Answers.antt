use Rattle.std.proofs.Common.{◌∙◌, ◌++◌, ap, map, arith}
use Rattle.serde_json.specs.View.{view}
use Rattle.pcr_replay.specs.BankReplays.{bank_outcomes_of}
use Rattle.uefi_audits.specs.declared.verify.held.HeldPcr.{HeldPcr}
use Rattle.audit_text.specs.json.Json.{values_of}
use Rattle.audit_text.specs.json.Verdict.{if_disagreeing}
use Rattle.audit_text.proofs.json.Values.{values_joined}
use Rattle.audit_text.proofs.json.verdict.each_disagreeing.Goals as goal

pub loop-pcr-preserved : goal.loop-pcr-preserved
loop-pcr-preserved c =
    let replays = map bank_outcomes_of c.args.replays.now in
    values_joined c.args.held.now c.loop-pcr.pcr-index c.pcr-item.result (omega (arith, c.loop-pcr-test.true))
    (if_disagreeing replays) _ _ c.loop-pcr.invariant
    (c.in_ok-push_if_disagreeing.ensures
    ∙ ap (λ (it : HeldPcr). map view c.loop-pcr.values.items ++ values_of (if_disagreeing replays it)) c.pcr-item.is)
