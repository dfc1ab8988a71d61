use Rattle.std.proofs.Common.{ap, arith, length}
use Rattle.uefi_c.specs.declared.log.UefiLog.{UefiLog}
use Rattle.uefi_c.proofs.LogWalk.{all_found, moves, one_more}
use Rattle.uefi_c.proofs.callers.log.events_left.Goals as goal

pub returns-then-status-ne-OK : goal.returns-then-status-ne-OK
returns-then-status-ne-OK g c = λ entries has.
    all_found c.events.log c.uefi_log_next-status.result c.events.views.items entries
    (c.uefi_log_next-status.ensures.none c.if-status-ne-OK.true) (c.events.invariant entries has)

pub events-smaller : goal.events-smaller
events-smaller g c =
    let new = c.uefi_log_next-status.new in
    let moved = moves c.events.log new.out new.log.offset (c.uefi_log_next-status.ensures.keeps c.if-status-ne-OK.false) in
    omega (
      arith,
      moved.0,
      moved.1,
      ap (λ (log : UefiLog). length log.bytes.now) (c.uefi_log_next-status.ensures.moved c.if-status-ne-OK.false),
    )

pub events-preserved : goal.events-preserved
events-preserved g c = λ entries has.
    let new = c.uefi_log_next-status.new in
    one_more c.events.log new.log c.events.views.items c.push.new.self.items new.out entries c.in_ok-push.ensures.items
    (c.uefi_log_next-status.ensures.step c.if-status-ne-OK.false) (c.events.invariant entries has)
