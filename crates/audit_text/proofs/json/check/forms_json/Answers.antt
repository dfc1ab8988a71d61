use Rattle.std.proofs.Common.{◌∙◌, ap, arith, get_or}
use Rattle.std.specs.Prelude.{slice_index}
use Rattle.serde_json.specs.View.{members_view}
use Rattle.uefi_audits.specs.CheckResult.{all_forms, form_index}
use Rattle.uefi_audits.specs.declared.check.form.Form.TheVariants.{Data}
use Rattle.audit_text.specs.json.Check.{form_member}
use Rattle.audit_text.specs.json.Json.{with_members}
use Rattle.audit_text.proofs.json.Values.{members_joined}
use Rattle.audit_text.proofs.json.check.forms_json.Goals as goal

pub loop-form-preserved : goal.loop-form-preserved
loop-form-preserved c =
    members_joined all_forms c.loop-form.form-index Data (omega (arith, c.loop-form-test.true))
    (λ form. form_member (slice_index c.args.counts.now.by_form (form_index form)) form) _ _ c.loop-form.invariant
    (c.in_ok-put_form.ensures
    ∙ ap (λ n. with_members (members_view c.loop-form.members.entries) (form_member n (get_or all_forms c.loop-form.form-index Data))) c.matching_in.ensures)
