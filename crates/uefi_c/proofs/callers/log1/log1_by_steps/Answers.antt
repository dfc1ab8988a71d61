use Rattle.std.proofs.Common.{sym, subst, arith}
use Rattle.uefi_c.proofs.Log1Steps.{Found, none_yet, moves, ends_within, found_more, found_all}
use Rattle.uefi_c.proofs.callers.log1.log1_by_steps.Goals as goal

pub loop-event-init : goal.loop-event-init
loop-event-init g c = subst (Found c.args.last_entry c.args.log.now 0) (sym c.new-views.ensures.items)
    (none_yet c.args.last_entry c.args.log.now)

pub loop-event-smaller : goal.loop-event-smaller
loop-event-smaller g c =
    let next = c.uefi_log1_next.ensures.next c.loop-event-test.true in
    let new = c.uefi_log1_next.new in
    omega (
      arith,
      moves c.args.last_entry c.loop-event.offset new.offset c.args.log.now new.out next,
      ends_within c.args.last_entry c.loop-event.offset new.offset c.args.log.now new.out next,
    )

pub loop-event-preserved : goal.loop-event-preserved
loop-event-preserved g c =
    let new = c.uefi_log1_next.new in
    found_more c.args.last_entry c.loop-event.offset new.offset c.args.log.now new.out
    (c.uefi_log1_next.ensures.next c.loop-event-test.true)
    c.loop-event.views.items c.push.new.self.items c.in_ok-push.ensures.items c.loop-event.invariant

pub returns : goal.returns
returns g c =
    found_all c.args.last_entry c.loop-event.offset c.args.log.now c.loop-event.views.items c.loop-event.invariant
    (c.uefi_log1_next.ensures.none c.loop-event-test.false)
