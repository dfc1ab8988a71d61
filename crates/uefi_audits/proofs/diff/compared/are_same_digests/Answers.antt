use Rattle.std.proofs.Common.{◌≡◌, refl}
use Rattle.std.specs.Prelude.{false, true}
use Rattle.uefi_audits.specs.diff.Differences.{digests_in}
use Rattle.uefi_audits.specs.private.diff.Digests.{digests_of}
use Rattle.uefi_audits.proofs.diff.Digests.{same_here, same_more}
use Rattle.uefi_audits.proofs.diff.compared.are_same_digests.Goals as goal

pub returns-then-not-has_same_digests : goal.returns-then-not-has_same_digests
returns-then-not-has_same_digests c = (
  (λ no. let so : false ≡ true = no in cc),
  (λ same. c.if-not-has_same_digests.ensures.1 (same_here (digests_in (digests_of c.args.ones.now))
      (digests_in (digests_of c.args.others.now)) c.args.algorithms.now c.loop-algorithm.algorithm-index _
      c.loop-algorithm-test.true same)),
)

pub loop-algorithm-preserved : goal.loop-algorithm-preserved
loop-algorithm-preserved c =
    same_more (digests_in (digests_of c.args.ones.now)) (digests_in (digests_of c.args.others.now))
    c.args.algorithms.now c.loop-algorithm.algorithm-index _ c.loop-algorithm-test.true
    (c.if-not-has_same_digests.ensures.0 refl) c.loop-algorithm.invariant
