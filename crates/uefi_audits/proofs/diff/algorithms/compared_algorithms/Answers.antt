use Rattle.std.proofs.Common.{get_or, rules}
use Rattle.uefi_audits.specs.diff.Algorithms.{is_compared}
use Rattle.uefi_audits.specs.diff.Views.{numbers_of}
use Rattle.uefi_audits.proofs.FirstOnes.{none_passes, one_passes}
use Rattle.uefi_audits.proofs.diff.Digests.{pushed}
use Rattle.uefi_audits.proofs.diff.algorithms.compared_algorithms.Goals as goal
use Rattle.uefi_audits.proofs.diff.algorithms.compared_algorithms.Goals.{then-is_compared+in_ok-push, else-is_compared}

pub loop-number-preserved : goal.loop-number-preserved
loop-number-preserved c =
    let news = c.in_ok-news.news.items in
    let olds = c.as_slice-number-items.result.now in
    elim c.if-is_compared.branch [
      | then-is_compared+in_ok-push w ↦ one_passes (is_compared c.args.bank news) olds (numbers_of c.loop-number.found.items)
          (numbers_of c.if-is_compared.found.items) c.loop-number.number-index 0 c.loop-number-test.true
          c.loop-number.invariant (search rules)
          (pushed c.loop-number.found.items c.if-is_compared.found.items (get_or olds c.loop-number.number-index 0) (search rules))
      | else-is_compared w ↦ rw w.found-is (none_passes (is_compared c.args.bank news) olds (numbers_of c.loop-number.found.items)
          c.loop-number.number-index 0 c.loop-number-test.true c.loop-number.invariant (search rules))
    ]
