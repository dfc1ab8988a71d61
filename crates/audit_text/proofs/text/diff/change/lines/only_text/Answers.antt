use Rattle.std.proofs.Common.{◌∙◌, ap, map}
use Rattle.std.specs.Prelude.{codes}
use Rattle.std.proofs.lemmas.Result.{IfOk-weaker}
use Rattle.audit_text.specs.text.ChangeParts.{joined, only_text}
use Rattle.audit_text.proofs.text.Joined.{joined_views}
use Rattle.audit_text.proofs.text.diff.change.lines.only_text.Goals as goal

pub returns : goal.returns
unfolding only_text
returns c =
    IfOk-weaker c.join.result _ _ (λ text is. is ∙ joined_views (λ line. line.now) (codes "; ") c.deref.result.now
    ∙ ap (joined (codes "; ")) (ap (map (λ line. line.now)) c.deref.ensures.value ∙ c.in_ok-only.ensures)) c.join.ensures.ok
