use Rattle.std.proofs.Common.{arith}
use Rattle.uefi_tcg.specs.v2.Header.{after_header}
use Rattle.uefi_tcg.proofs.v2.FoundHeader.{start_within}
use Rattle.uefi_c.specs.Log2.{header_seen}
use Rattle.uefi_c.proofs.Log2Steps.{is_log, no_log}
use Rattle.uefi_c.proofs.callers.log2.log2_by_steps.Goals as goal

pub returns-then-uefi_log2_header-ne-OK : goal.returns-then-uefi_log2_header-ne-OK
returns-then-uefi_log2_header-ne-OK g c =
    no_log after_header c.args.last_entry c.args.log.now c.new.result.items c.new.ensures.items
    (c.uefi_log2_header.ensures.none c.if-uefi_log2_header-ne-OK.true)

pub events_from-requires-clause-start : goal.events_from-requires-clause-start
events_from-requires-clause-start g c =
    let header = c.uefi_log2_header.new.out in
    let ensures = c.uefi_log2_header.ensures in
    let has = ensures.header c.if-uefi_log2_header-ne-OK.false in
    omega (arith, ensures.start c.if-uefi_log2_header-ne-OK.false, start_within c.args.log.now c.args.last_entry (header_seen header) (has.0, has.1))

pub returns : goal.returns
returns g c =
    let ensures = c.uefi_log2_header.ensures in
    let has = ensures.header c.if-uefi_log2_header-ne-OK.false in
    is_log c.events_from.result (λ views. views.items) after_header c.args.last_entry _ c.args.log.now
    (record { event = has.0; header = header_seen c.uefi_log2_header.new.out }) has.1 (ensures.start c.if-uefi_log2_header-ne-OK.false)
    c.events_from.ensures
