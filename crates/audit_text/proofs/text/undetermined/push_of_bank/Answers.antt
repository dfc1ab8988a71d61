use Rattle.pcr_replay.specs.Views.{outcome_of}
use Rattle.audit_text.specs.text.Undetermined.{undetermined_text}
use Rattle.uefi_audits.proofs.Numbered.{all_appended, text_appended}
use Rattle.audit_text.proofs.text.undetermined.push_of_bank.Goals as goal

pub loop-number-preserved : goal.loop-number-preserved
loop-number-preserved g c =
    text_appended (undetermined_text c.args.name.now c.args.bank) outcome_of _ _ c.loop-number.number _ _ _ _
    c.outcomes-outcomes.ensures.outcomes c.loop-number-test.true c.index-outcomes-number.is c.loop-number.invariant
    c.in_ok-push_if_undetermined.ensures

pub returns : goal.returns
returns g c =
    all_appended (undetermined_text c.args.name.now c.args.bank) outcome_of _ _ c.loop-number.number _ _
    c.outcomes-outcomes.ensures.outcomes c.loop-number-test.false c.loop-number.invariant
