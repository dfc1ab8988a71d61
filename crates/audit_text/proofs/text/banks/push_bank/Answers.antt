use Rattle.std.proofs.Common.{append_assoc}
use Rattle.audit_text.specs.text.Pcrs.{bank_lines}
use Rattle.pcr_replay.specs.Views.{outcome_of}
use Rattle.audit_text.specs.text.Pcrs.{pcr_line}
use Rattle.uefi_audits.proofs.Numbered.{all_appended, text_appended}
use Rattle.audit_text.proofs.text.banks.push_bank.Goals as goal

pub loop-number-preserved : goal.loop-number-preserved
loop-number-preserved g c =
    text_appended pcr_line outcome_of _ _ c.loop-number.number _ _ _ _ c.outcomes-outcomes.ensures.outcomes
    c.loop-number-test.true c.index-outcomes-number.is c.loop-number.invariant c.in_ok-push_pcr.ensures

pub returns : goal.returns
unfolding bank_lines
returns g c =
    simp append_assoc (
    simp (c.in_ok-writeln.ensures.bytes, c.bank_name-name.ensures, append_assoc) at
    (all_appended pcr_line outcome_of _ _ c.loop-number.number _ _ c.outcomes-outcomes.ensures.outcomes c.loop-number-test.false
    c.loop-number.invariant)
    )
