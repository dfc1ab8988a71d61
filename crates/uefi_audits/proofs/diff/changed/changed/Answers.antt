use Rattle.std.proofs.Common.{List, arith, map, rules, subst}
use Rattle.uefi_audits.specs.declared.diff.changed.EventPair.{EventPair}
use Rattle.uefi_audits.specs.diff.Differences.{AreChanged}
use Rattle.uefi_audits.specs.diff.Views.{change_of, parts_of}
use Rattle.uefi_audits.specs.private.diff.Ranks.{pair_of}
use Rattle.uefi_audits.proofs.FirstOnes.{all_taken}
use Rattle.uefi_audits.proofs.diff.Parted.{one_differs, one_same}
use Rattle.uefi_audits.proofs.diff.changed.changed.Goals as goal
use Rattle.uefi_audits.proofs.diff.changed.changed.Goals.{then-not-branch+in_ok-push, else-not-branch}

pub loop-pair-preserved : goal.loop-pair-preserved
loop-pair-preserved c =
    let parts = parts_of c.args.parts.now in
    elim c.if-not-branch.branch [
      | then-not-branch+in_ok-push w ↦ one_differs parts c.args.pairs.now c.loop-pair.found.items
          c.if-not-branch.found.items c.loop-pair.pair-index c.pair-item.result w.copied.result c.loop-pair-test.true
          c.pair-item.is c.loop-pair.invariant
          (λ same. let is = c.in_ok-is_same_event.ensures.1 same in let no = w.if-not-branch.true in cc) w.copied.ensures (search rules)
      | else-not-branch w ↦ rw w.found-is (one_same parts c.args.pairs.now c.loop-pair.found.items
          c.loop-pair.pair-index c.pair-item.result c.loop-pair-test.true c.pair-item.is c.loop-pair.invariant
          (c.in_ok-is_same_event.ensures.0 w.if-not-branch.false))
    ]

pub returns : goal.returns
returns c =
    subst (λ (pairs : List EventPair). AreChanged (parts_of c.args.parts.now) (map pair_of pairs)
    (map change_of c.loop-pair.found.items))
    (all_taken c.args.pairs.now c.loop-pair.pair-index (omega (arith, c.loop-pair-test.false)))
    c.loop-pair.invariant
