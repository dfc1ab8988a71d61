use Rattle.std.proofs.Common.{◌∙◌, [], ◌∷◌}
use Rattle.std.proofs.lemmas.Result.{IfOk-weaker}
use Rattle.audit_text.specs.text.ChangeParts.{joined_words}
use Rattle.audit_text.proofs.text.Joined.{joined_from}
use Rattle.audit_text.proofs.text.diff.change.words.joined_words.Goals as goal

pub returns : goal.returns
unfolding joined_words
returns c =
    IfOk-weaker c.join.result _ _ (λ text is. is
    ∙ joined_from (λ word. word.now) (32 ∷ []) c.args.index c.args.words.now _ c.split_at.ensures.back) c.join.ensures.ok
