use Rattle.std.proofs.Common.{◌∙◌, ap, map, string_bytes}
use Rattle.std.specs.List.{filter}
use Rattle.std.specs.Prelude.{codes}
use Rattle.std.proofs.lemmas.List.{take_all}
use Rattle.std.proofs.lemmas.Result.{IfOk-weaker}
use Rattle.uefi_tcg.specs.LogViews.{event_of}
use Rattle.audit_text.specs.text.Change.{digest_change, digest_changes, has_words}
use Rattle.audit_text.specs.text.ChangeParts.{joined}
use Rattle.audit_text.proofs.text.Joined.{joined_views}
use Rattle.audit_text.proofs.text.diff.change.digests.digest_changes.Goals as goal

pub returns : goal.returns
unfolding digest_changes
returns c =
    let change = digest_change (event_of c.args.old.now) (event_of c.args.new.now) in
    IfOk-weaker c.join.result _ _ (λ words is. is ∙ joined_views string_bytes (codes ", ") c.deref.result.now
    ∙ ap (joined (codes ", ")) (ap (map string_bytes) c.deref.ensures.value ∙ c.loop-algorithm.invariant
    ∙ ap (λ them. filter has_words (map change (map (λ id. id.0) them)))
    (take_all c.loop-algorithm.algorithm-index c.args.algorithms.now c.loop-algorithm-test.false))) c.join.ensures.ok
