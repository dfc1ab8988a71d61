use Rattle.std.proofs.Common.{length, ap}
use Rattle.uefi_tcg.specs.LogInput.{LogInput}
use Rattle.uefi_tcg.specs.v2.Event.{event_bytes}
use Rattle.uefi_tcg.specs.v2.Header.{HeaderEvent, IsHeaderEvent, after_event, start_of}
use Rattle.uefi_tcg.specs.v2.Views.{event_of}
use Rattle.uefi_examples.proofs.DigestSteps.{IsAt, keeps_there, moved_on}
use Rattle.uefi_examples.proofs.digest_logs.two_steps.Goals as goal

-- Where the iterator stands before its first step.
begins : (c : goal.In_ok-second) (found : HeaderEvent)
    → IsHeaderEvent c.args.bytes.now c.args.last_entry found.event found.header
    → IsAt found.header.table (start_of after_event found) c.args.last_entry c.args.bytes.now
    c.iter_after_header_event-events.result
begins c found is =
    c.iter_after_header_event-events.ensures.begins c.args.bytes.now c.args.last_entry found
    (ap (λ (log : LogInput). log.bytes) c.new-log.ensures)
    (ap (λ (log : LogInput). log.last_entry) c.new-log.ensures) is

pub returns-clause-first : goal.returns-clause-first
returns-clause-first c = λ found is.
    keeps_there found.header.table
    (start_of after_event found) c.args.last_entry c.args.bytes.now c.iter_after_header_event-events.result
    (event_of c.in_ok-first.first)
    (begins c found is) c.in_ok-first.ensures.keeps

pub returns-clause-second : goal.returns-clause-second
returns-clause-second c = λ found is.
    let size = length (event_bytes (event_of c.in_ok-first.first)) in
    let before = c.in_ok-first.ensures in
    let at =
    moved_on found.header.table (start_of after_event found) c.args.last_entry size c.args.bytes.now
    c.iter_after_header_event-events.result c.next.new.self
    (begins c found is) before.bytes before.table before.last_entry before.offset in
    keeps_there found.header.table _ c.args.last_entry c.args.bytes.now c.next.new.self
    (event_of c.in_ok-second.second) at c.in_ok-second.ensures.keeps
