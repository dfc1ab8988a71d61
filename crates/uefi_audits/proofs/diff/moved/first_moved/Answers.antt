use Rattle.std.proofs.Common.{arith, map, subst, sym}
use Rattle.std.specs.Prelude.{Some}
use Rattle.std.proofs.lemmas.List.{length-map}
use Rattle.uefi_audits.specs.diff.Differences.{Change, IsFirstMoved}
use Rattle.uefi_audits.specs.private.diff.Ranks.{pair_of}
use Rattle.uefi_audits.proofs.diff.Moves.{first_is, none_moved, none_yet, one_more, pair_at}
use Rattle.uefi_audits.proofs.diff.moved.first_moved.Goals as goal

pub loop-pair-init : goal.loop-pair-init
loop-pair-init c = none_yet (map pair_of c.args.pairs.now)

pub loop-pair-preserved : goal.loop-pair-preserved
loop-pair-preserved c =
    one_more (map pair_of c.args.pairs.now) c.loop-pair.pair-index c.loop-pair.last (pair_of c.pair-item.result)
    (pair_at c.args.pairs.now c.loop-pair.pair-index c.pair-item.result c.loop-pair-test.true c.pair-item.is)
    (omega (arith, c.if-pair-last.false)) c.loop-pair.invariant

pub returns-then-pair-last : goal.returns-then-pair-last
returns-then-pair-last c =
    subst (λ (it : Change). IsFirstMoved (map pair_of c.args.pairs.now) (Some it)) (sym c.copied.ensures)
    (first_is (map pair_of c.args.pairs.now) c.loop-pair.pair-index c.loop-pair.last (pair_of c.pair-item.result)
    (pair_at c.args.pairs.now c.loop-pair.pair-index c.pair-item.result c.loop-pair-test.true c.pair-item.is)
    (omega (arith, c.if-pair-last.true)) c.loop-pair.invariant)

pub returns : goal.returns
returns c =
    none_moved (map pair_of c.args.pairs.now) c.loop-pair.pair-index c.loop-pair.last
    (omega (arith, length-map c.args.pairs.now pair_of, c.loop-pair-test.false)) c.loop-pair.invariant
