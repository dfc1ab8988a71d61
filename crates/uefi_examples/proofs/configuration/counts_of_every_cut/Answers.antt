use Rattle.std.proofs.Common.{sym, ◌∙◌, subst}
use Rattle.std.proofs.lemmas.Result.{IfOk-weaker}
use Rattle.uefi_hii.specs.Cut.{results_of}
use Rattle.uefi_examples.specs.Configurations.{AreCounts}
use Rattle.uefi_examples.proofs.configuration.counts_of_every_cut.Goals as goal

pub returns : goal.returns
returns c =
    let one = c.one_cut.ensures.one c.args.text.now in
    IfOk-weaker c.item_counts.result _ _
    (λ counts found parts cut. subst (λ ps. AreCounts counts (results_of ps))
    (one.no_other found.0 found.1 ∙ sym (one.no_other parts cut)) found.2) c.item_counts.ensures
