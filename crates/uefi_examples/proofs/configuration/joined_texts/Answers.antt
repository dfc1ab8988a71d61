use Rattle.std.proofs.lemmas.Result.{IfOk-weaker}
use Rattle.uefi_examples.proofs.configuration.joined_texts.Goals as goal

pub returns : goal.returns
returns c = IfOk-weaker c.format.result _ _
    (λ joined is parts others of_text of_other whole last key. rw is
    (c.one_cut.ensures.joined c.args.text.now c.args.other.now parts others of_text of_other whole last key))
    c.format.ensures.ok
