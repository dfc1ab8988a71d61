use Rattle.std.proofs.Common.{◌≡◌, arith, rules}
use Rattle.std.specs.BTreeMap.{IsOrdered, values}
use Rattle.std.specs.Ordering.{nat_cmp}
use Rattle.std.specs.Prelude.{IfOk}
use Rattle.std.proofs.lemmas.Result.{IfOk-weaker}
use Rattle.uefi_audits.proofs.Counting.{all_counted, has_room, one_more_of}
use Rattle.uefi_audits.proofs.check.counts.counts_of.Goals as goal

pub count-requires : goal.count-requires
count-requires g c =
    has_room c.loop-index.types c.args.all.now c.loop-index.index c.event_type.result.0 c.loop-index.invariant
    (omega (arith, c.loop-index-test.true)) (omega arith)

pub loop-index-preserved : goal.loop-index-preserved
loop-index-preserved g c =
    one_more_of c.loop-index.types c.count.new.types c.args.all.now c.loop-index.index c.index-all-index.result
    (omega (arith, c.loop-index-test.true)) c.index-all-index.is c.loop-index.invariant
    (rw (← c.event_type.ensures) c.in_ok-count.ensures)

pub returns : goal.returns
returns g c =
    let order : IsOrdered nat_cmp c.loop-index.types = search rules in
    let counts : IfOk c.collect.result (λ counts. counts.items ≡ values c.loop-index.types) = search rules in
    IfOk-weaker c.collect.result _ _
    (λ counts is. all_counted c.loop-index.types c.args.all.now c.loop-index.index counts.items
    (omega (arith, c.loop-index-test.false)) order c.loop-index.invariant is) counts
