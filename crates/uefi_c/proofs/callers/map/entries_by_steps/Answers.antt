use Rattle.std.proofs.Common.{length}
use Rattle.uefi_c.specs.Map.{sizes_of}
use Rattle.uefi_c.proofs.MapSteps.{one_more, all_seen}
use Rattle.uefi_c.proofs.callers.map.entries_by_steps.Goals as goal

pub loop-entry-preserved : goal.loop-entry-preserved
loop-entry-preserved g c = λ is.
    let sizes = sizes_of (length c.args.bytes.now) c.args.stride in
    let ensures = c.uefi_map_entry.ensures in
    one_more c.args.bytes.now sizes c.loop-entry.index c.uefi_map_entry.new.out (ensures.found.0 c.loop-entry-test.true).1
    (ensures.entry c.loop-entry-test.true)
    c.loop-entry.views.items c.push.new.self.items c.in_ok-push.ensures.items (c.loop-entry.invariant is)

pub returns : goal.returns
returns g c = λ is.
    let sizes = sizes_of (length c.args.bytes.now) c.args.stride in
    let ensures = c.uefi_map_entry.ensures in
    all_seen c.args.bytes.now sizes c.loop-entry.index c.loop-entry.views.items
    (λ lt. c.loop-entry-test.false (ensures.found.1 (is, lt))) (c.loop-entry.invariant is)
