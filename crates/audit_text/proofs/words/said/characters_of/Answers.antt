use Rattle.std.proofs.Common.{◌∙◌, map-id, sym}
use Rattle.std.proofs.lemmas.Iterator.{YieldsList-from_chars}
use Rattle.std.proofs.lemmas.Iterator.Consumers.{map_from_collect}
use Rattle.std.proofs.lemmas.Result.{IfOk-weaker}
use Rattle.audit_text.proofs.words.said.characters_of.Goals as goal

pub returns : goal.returns
returns c =
    IfOk-weaker c.collect.result _ _ (λ found all. sym (map-id _) ∙ all)
    (map_from_collect _ c.collect.ensures.ran (YieldsList-from_chars c.args.text.now c.utf8.text cc))
