use Rattle.std.proofs.lemmas.Result.{IfOk-weaker}
use Rattle.uefi_c.specs.LastEntry.{log_named}
use Rattle.uefi_c.proofs.LogWalk.{not_whole}
use Rattle.uefi_c.proofs.callers.log.log_by_steps.Goals as goal

pub returns-then-status-ne-OK : goal.returns-then-status-ne-OK
returns-then-status-ne-OK g c = λ whole contents has.
    let ensures = c.uefi_log-status.ensures in
    absurd (not_whole (log_named c.args.bytes c.args.last_entry) c.uefi_log-status.result whole c.if-status-ne-OK.true ensures.known
    ensures.left_over ensures.no_event ensures.many)

pub returns : goal.returns
returns g c =
    let ensures = c.uefi_log-status.ensures in
    let ok = c.if-status-ne-OK.false in
    IfOk-weaker c.events_left.result _ _ (λ found all whole contents has.
    all contents.entries (ensures.left ok contents (ensures.same ok contents has))) c.events_left.ensures
