use Rattle.std.proofs.Common.{arith, append_assoc, [], ◌∷◌, ◌++◌, map}
use Rattle.std.proofs.lemmas.List.{append-nil, length_push, map-append}
use Rattle.uefi_tcg.specs.v1.Views.{event_of}
use Rattle.uefi_examples.proofs.logs.audited_events.Goals as goal

pub loop-event-init : goal.loop-event-init
loop-event-init c =
    simp (c.new-events.ensures.items, c.into_iter-event-iterator.ensures.into_iter_gives)
    (rw c.new-log.ensures at c.iter-event-items.ensures.log)

pub loop-event-preserved : goal.loop-event-preserved
loop-event-preserved c = simp (c.in_ok-push.ensures.items, map-append, append_assoc)
    (rw c.in-Some.ensures.steps at c.loop-event.invariant)

pub returns-clause-keep : goal.returns-clause-keep
returns-clause-keep c = let log = simp (c.in-None.ensures.steps.0, append-nil) at c.loop-event.invariant in log.all_keep

pub returns-clause-none_missing : goal.returns-clause-none_missing
returns-clause-none_missing c = λ event keep.
    let log = simp (c.in-None.ensures.steps.0, append-nil) at c.loop-event.invariant in
    let events = map event_of c.loop-event.events.items in
    omega (arith, log.longest (events ++ event ∷ []) keep, length_push events event)
