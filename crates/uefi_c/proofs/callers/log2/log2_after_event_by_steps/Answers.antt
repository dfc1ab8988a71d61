use Rattle.uefi_tcg.specs.v2.Header.{after_event}
use Rattle.uefi_c.specs.Log2.{header_seen}
use Rattle.uefi_c.proofs.Log2Steps.{is_log, no_log}
use Rattle.uefi_c.proofs.callers.log2.log2_after_event_by_steps.Goals as goal

pub returns-then-uefi_log2_header-ne-OK : goal.returns-then-uefi_log2_header-ne-OK
returns-then-uefi_log2_header-ne-OK g c =
    no_log after_event c.args.last_entry c.args.log.now c.new.result.items c.new.ensures.items
    (c.uefi_log2_header.ensures.none c.if-uefi_log2_header-ne-OK.true)

pub returns : goal.returns
returns g c =
    let has = c.uefi_log2_header.ensures.header c.if-uefi_log2_header-ne-OK.false in
    is_log c.events_from.result (λ views. views.items) after_event c.args.last_entry _ c.args.log.now
    (record { event = has.0; header = header_seen c.uefi_log2_header.new.out }) has.1 has.2 c.events_from.ensures
