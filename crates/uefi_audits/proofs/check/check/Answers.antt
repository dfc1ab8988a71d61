use Rattle.std.proofs.Common.{◌≡◌, ◌∙◌, ap, inr, subst}
use Rattle.uefi_tcg.specs.LogViews.{event_of}
use Rattle.uefi_audits.specs.Check.{MatchesNoneOf, forms_of}
use Rattle.uefi_audits.proofs.Outside.{not_outside, outside_by_type}
use Rattle.uefi_audits.proofs.check.check.Goals as goal
use Rattle.uefi_audits.proofs.check.check.Goals.{then-is_empty-via-then-is_empty, then-is_empty-via-else-is_empty+then-may_measure_other}

pub returns-then-is_empty : goal.returns-then-is_empty
returns-then-is_empty g c =
    let event = event_of c.args.event.now in
    let are : c.forms_of-forms.result.now ≡ forms_of event.event_type =
    c.forms_of-forms.ensures ∙ ap forms_of c.event_type.ensures in (
      subst (MatchesNoneOf event) are (rw c.in_default.is at c.in_ok-form.ensures),
      elim c.then-is_empty.branch [
        | then-is_empty-via-then-is_empty w ↦
            outside_by_type event c.forms_of-forms.result.now c.is_empty.result are c.is_empty.ensures w.if-is_empty.true
        | then-is_empty-via-else-is_empty+then-may_measure_other w ↦
            inr (w.may_measure_other.ensures.0 w.if-may_measure_other.true)
      ],
    )

pub returns : goal.returns
returns g c =
    let event = event_of c.args.event.now in
    let are : c.forms_of-forms.result.now ≡ forms_of event.event_type =
    c.forms_of-forms.ensures ∙ ap forms_of c.event_type.ensures in (
      subst (MatchesNoneOf event) are (rw c.in_default.is at c.in_ok-form.ensures),
      not_outside event c.forms_of-forms.result.now c.is_empty.result c.may_measure_other.result are c.is_empty.ensures
          c.if-is_empty.false c.may_measure_other.ensures c.if-may_measure_other.false,
    )
