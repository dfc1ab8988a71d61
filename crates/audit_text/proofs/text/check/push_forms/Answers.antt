use Rattle.std.proofs.Common.{append-nil, arith, refl, string_bytes, sym}
use Rattle.uefi_audits.specs.CheckResult.{all_forms}
use Rattle.audit_text.specs.private.Forms.{opened}
use Rattle.audit_text.proofs.text.Parentheses.{any_upto, closed_upto, none_upto, text_upto}
use Rattle.audit_text.proofs.text.check.push_forms.Goals as goal

pub loop-form-init : goal.loop-form-init
unfolding opened
loop-form-init g c = record { text = sym (append-nil (string_bytes c.args.text.now)); any = refl }

pub loop-form-preserved : goal.loop-form-preserved
loop-form-preserved g c =
    let before = c.loop-form.invariant in
    let step = c.in_ok-any.ensures in record {
      text = text_upto c.args.counts.now.by_form all_forms c.loop-form.form-index c.matching_in.result _ _ c.loop-form.any
          (string_bytes c.args.text.now) (string_bytes c.loop-form.text) (string_bytes c.push_form.new.text)
          (omega (arith, c.loop-form-test.true)) refl c.matching_in.ensures before.any before.text step.appends;
      any = any_upto c.args.counts.now.by_form all_forms c.loop-form.form-index c.matching_in.result _ _ c.loop-form.any
          c.in_ok-any.any (omega (arith, c.loop-form-test.true)) refl c.matching_in.ensures before.any step.has_any;
    }

pub returns-in_ok-push : goal.returns-in_ok-push
unfolding lib.Utf8.encode
returns-in_ok-push g c =
    closed_upto c.args.counts.now.by_form all_forms c.loop-form.form-index c.loop-form.any (string_bytes c.args.text.now)
    (string_bytes c.loop-form.text) (string_bytes c.push.new.self) (omega (arith, c.loop-form-test.false))
    c.loop-form.invariant.any c.loop-form.invariant.text c.if-any.true c.in_ok-push.ensures.bytes

pub returns-else-any : goal.returns-else-any
returns-else-any g c =
    none_upto c.args.counts.now.by_form all_forms c.loop-form.form-index c.loop-form.any (string_bytes c.args.text.now)
    (string_bytes c.loop-form.text) (omega (arith, c.loop-form-test.false)) c.loop-form.invariant.any
    c.loop-form.invariant.text c.if-any.false
