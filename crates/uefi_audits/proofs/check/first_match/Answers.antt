use Rattle.std.proofs.Common.{arith, refl}
use Rattle.std.proofs.lemmas.Bool.{true≢false}
use Rattle.std.proofs.Common.{◌∙◌, sym}
use Rattle.uefi_tcg.specs.LogViews.{event_of}
use Rattle.uefi_audits.proofs.Matching.{first_at, none_more, none_of_all}
use Rattle.uefi_audits.proofs.check.first_match.Goals as goal

pub returns-then-branch : goal.returns-then-branch
returns-then-branch g c =
    first_at (event_of c.args.event.now) c.args.forms.now c.loop-form.form-index _ _ (omega (arith, c.loop-form-test.true))
    refl c.loop-form.invariant (c.in_ok-matches_by.ensures.0 c.if-branch.true)

pub loop-form-preserved : goal.loop-form-preserved
loop-form-preserved g c =
    none_more (event_of c.args.event.now) c.args.forms.now c.loop-form.form-index _ (omega (arith, c.loop-form-test.true))
    c.loop-form.invariant (λ matches. true≢false (sym (c.in_ok-matches_by.ensures.1 matches) ∙ c.if-branch.false))

pub returns : goal.returns
returns g c =
    none_of_all (event_of c.args.event.now) c.args.forms.now c.loop-form.form-index (omega (arith, c.loop-form-test.false))
    c.loop-form.invariant
