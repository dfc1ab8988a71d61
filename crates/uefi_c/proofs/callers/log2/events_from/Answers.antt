use Rattle.std.proofs.Common.{sym, subst, arith}
use Rattle.uefi_tcg.specs.v2.Reading.{rows_in}
use Rattle.uefi_c.proofs.Log2Steps.{Found, none_yet, moves, ends_within, found_more, found_all}
use Rattle.uefi_c.proofs.callers.log2.events_from.Goals as goal

pub loop-event-init : goal.loop-event-init
loop-event-init g c =
    let table = rows_in c.args.rows.now in
    subst (Found table c.args.last_entry c.args.log.now c.args.start c.args.start) (sym c.new-views.ensures.items)
    (none_yet table c.args.last_entry c.args.start c.args.log.now c.requires.start)

pub loop-event-smaller : goal.loop-event-smaller
loop-event-smaller g c =
    let next = c.uefi_log2_next.ensures.next c.loop-event-test.true in
    let new = c.uefi_log2_next.new in
    let table = rows_in c.args.rows.now in
    omega (
      arith,
      moves table c.args.last_entry c.loop-event.offset new.offset c.args.log.now new.out next,
      ends_within table c.args.last_entry c.loop-event.offset new.offset c.args.log.now new.out next,
    )

pub loop-event-preserved : goal.loop-event-preserved
loop-event-preserved g c =
    let new = c.uefi_log2_next.new in
    found_more (rows_in c.args.rows.now) c.args.last_entry c.loop-event.offset new.offset c.args.log.now new.out
    (c.uefi_log2_next.ensures.next c.loop-event-test.true) c.requires.few c.args.start c.loop-event.views.items c.push.new.self.items
    c.in_ok-push.ensures.items c.loop-event.invariant

pub returns : goal.returns
returns g c =
    found_all (rows_in c.args.rows.now) c.args.last_entry c.args.start c.loop-event.offset c.args.log.now
    c.loop-event.views.items
    c.requires.few c.loop-event.invariant (c.uefi_log2_next.ensures.none c.loop-event-test.false c.requires.few)
