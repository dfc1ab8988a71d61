use Rattle.std.proofs.Common.{arith}
use Rattle.std.proofs.lemmas.List.Sums.{sum_by-cons}
use Rattle.uefi_examples.proofs.map.page_sum.Goals as goal

pub loop-entry-preserved : goal.loop-entry-preserved
loop-entry-preserved g c =
    let sum = simp (c.in-Some.ensures.steps, sum_by-cons) at c.loop-entry.invariant in
    omega (arith, c.in_ok-pages.ensures)

pub returns-in_err-pages-clause-too_many : goal.returns-in_err-pages-clause-too_many
returns-in_err-pages-clause-too_many g c = λ none.
    let sum = simp (c.in-Some.ensures.steps, sum_by-cons) at c.loop-entry.invariant in
    omega (arith, c.in_err-pages.ensures)

pub returns-clause-sum : goal.returns-clause-sum
returns-clause-sum g c = let sum = rw c.in-None.ensures.steps.0 at c.loop-entry.invariant in omega arith
