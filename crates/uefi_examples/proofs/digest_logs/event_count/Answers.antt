use Rattle.std.proofs.Common.{length, ap, arith}
use Rattle.uefi_examples.proofs.DigestLogs.{bound_after_header}
use Rattle.uefi_examples.proofs.digest_logs.event_count.Goals as goal

pub returns-clause-none : goal.returns-clause-none
returns-clause-none c = λ below.
    let log = c.count_from_header.ensures in
    let bound = bound_after_header c.bound_v2.ensures c.args.bytes.now c.args.last_entry log.1.0 log.0 log.1.1 in
    omega (arith, log.2, ap length (bound.0 below))

pub returns-clause-few : goal.returns-clause-few
returns-clause-few c =
    let log = c.count_from_header.ensures in
    let bound = bound_after_header c.bound_v2.ensures c.args.bytes.now c.args.last_entry log.1.0 log.0 log.1.1 in
    omega (arith, log.2, bound.1)
