use Rattle.std.proofs.Common.{ap, sym, ◌∙◌}
use Rattle.std.proofs.lemmas.Bool.{eqb-true, eqb-false}
use Rattle.std.proofs.lemmas.List.{nil_from_length}
use Rattle.uefi_tcg.specs.v2.Views.{digest_of}
use Rattle.uefi_audits.specs.private.diff.Digests.{digests_of}
use Rattle.pcr_replay.proofs.Digests.{first_by, rest_by, none_by}
use Rattle.uefi_audits.proofs.diff.compared.next_digest.Goals as goal

pub loop-id-preserved : goal.loop-id-preserved
loop-id-preserved c =
    sym (rest_by c.args.algorithm.0 (digest_of c.in-Some.field-0.now) _ _ (ap digests_of c.in-Some.ensures.steps)
    (eqb-false _ _ (sym c.eq.ensures ∙ c.if-eq.false))) ∙ c.loop-id.invariant

pub returns-then-eq : goal.returns-then-eq
returns-then-eq c =
    sym c.loop-id.invariant ∙ first_by c.args.algorithm.0
    (digest_of c.in-Some.field-0.now) _ _ (ap digests_of c.in-Some.ensures.steps)
    (eqb-true _ _ (sym c.eq.ensures ∙ c.if-eq.true))

pub returns : goal.returns
returns c =
    sym c.loop-id.invariant
    ∙ none_by c.args.algorithm.0 _ (ap digests_of (nil_from_length _ c.in_default.ensures.steps.0))
