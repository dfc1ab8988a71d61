use Rattle.std.proofs.Common.{◌∙◌}
use Rattle.pcr_replay.specs.Views.{outcome_of, outcomes_of}
use Rattle.uefi_audits.proofs.Numbered.{all_appended, text_appended}
use Rattle.audit_text.specs.json.Json.{values_of}
use Rattle.audit_text.specs.json.Replay.{if_undetermined}
use Rattle.audit_text.proofs.json.Values.{numbered_values}
use Rattle.audit_text.proofs.json.bank.all_undetermined.Goals as goal

pub loop-pcr-preserved : goal.loop-pcr-preserved
loop-pcr-preserved c =
    text_appended (λ n outcome. values_of (if_undetermined n outcome)) outcome_of _ _ c.loop-pcr.pcr _ _ _ _
    c.outcomes-outcomes.ensures.outcomes c.loop-pcr-test.true c.index-outcomes-pcr.is c.loop-pcr.invariant
    c.in_ok-push_if_undetermined.ensures

pub returns : goal.returns
returns c =
    all_appended (λ n outcome. values_of (if_undetermined n outcome)) outcome_of _ _ c.loop-pcr.pcr _ _
    c.outcomes-outcomes.ensures.outcomes c.loop-pcr-test.false c.loop-pcr.invariant
    ∙ numbered_values if_undetermined 0 (outcomes_of c.args.pcrs.now)
