use Rattle.std.proofs.Common.{◌∙◌, sym, length, ap}
use Rattle.uefi_examples.proofs.DigestLogs.{nothing_follows}
use Rattle.uefi_examples.proofs.digest_logs.counts_from_both_starts.Goals as goal

pub returns-clause-same : goal.returns-clause-same
returns-clause-same c =
    let log = c.event_count.ensures.count in
    let other = c.count_after_header_event.ensures in
    let same = c.same_where_nothing_follows.ensures c.args.bytes.now c.args.last_entry log.1.0 other.1.0 log.0 other.0
    log.1.1 other.1.1 (nothing_follows c.args.bytes.now c.args.last_entry c.requires log.1.0 log.0 log.1.1) in
    log.2 ∙ ap length same ∙ sym other.2
