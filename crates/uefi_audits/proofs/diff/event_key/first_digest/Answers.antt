use Rattle.std.proofs.Common.{ap, sym, ◌∙◌}
use Rattle.std.proofs.lemmas.Bool.{eqb-true, eqb-false}
use Rattle.uefi_tcg.specs.v2.Views.{digest_of}
use Rattle.pcr_replay.proofs.Digests.{first_by, rest_by, none_by}
use Rattle.uefi_audits.specs.diff.Counterparts.{first_or_none}
use Rattle.uefi_audits.proofs.diff.event_key.first_digest.Goals as goal

pub loop-id-preserved : goal.loop-id-preserved
loop-id-preserved c =
    sym (rest_by c.args.algorithm.0 (digest_of (c.in-Some.id, c.in-Some.digest)) _ _ c.in-Some.ensures.steps
    (eqb-false _ _ (sym c.eq.ensures ∙ c.if-eq.false))) ∙ c.loop-id.invariant

pub returns-then-eq : goal.returns-then-eq
returns-then-eq c =
    ap first_or_none (sym (first_by c.args.algorithm.0
    (digest_of (c.in-Some.id, c.in-Some.digest)) _ _ c.in-Some.ensures.steps
    (eqb-true _ _ (sym c.eq.ensures ∙ c.if-eq.true))) ∙ c.loop-id.invariant)

pub returns : goal.returns
returns c =
    ap first_or_none (sym (none_by c.args.algorithm.0 _ c.in_default.ensures.steps.0) ∙ c.loop-id.invariant)
