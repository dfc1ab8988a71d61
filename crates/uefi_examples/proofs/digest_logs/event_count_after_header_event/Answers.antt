use Rattle.std.proofs.Common.{length, ap, arith}
use Rattle.uefi_examples.proofs.DigestLogs.{bound_after_event}
use Rattle.uefi_examples.proofs.digest_logs.event_count_after_header_event.Goals as goal

pub returns-clause-none : goal.returns-clause-none
returns-clause-none c = λ found is below.
    let log = c.count_after_header_event.ensures in
    let bound = bound_after_event c.one_log_v2.ensures c.bound_v2.ensures c.args.bytes.now c.args.last_entry log.1.0
    log.0 log.1.1 found is in
    omega (arith, log.2, ap length (bound.0 below))

pub returns-clause-few : goal.returns-clause-few
returns-clause-few c = λ found is.
    let log = c.count_after_header_event.ensures in
    let bound = bound_after_event c.one_log_v2.ensures c.bound_v2.ensures c.args.bytes.now c.args.last_entry log.1.0
    log.0 log.1.1 found is in
    omega (arith, log.2, bound.1)
