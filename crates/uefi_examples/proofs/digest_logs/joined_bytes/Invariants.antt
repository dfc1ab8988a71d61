use Rattle.std.proofs.Common.{◌≡◌, ◌++◌, map}
use Rattle.std.specs.List.{concat}
use Rattle.uefi_tcg.specs.v2.Event.{event_bytes}
use Rattle.uefi_examples.proofs.digest_logs.joined_bytes.Given as goal

-- The bytes so far and those of the events to come are those of all.
abbrev pub invariant-loop-event : goal.invariant-loop-event
invariant-loop-event l = l.joined.items ++ concat (map event_bytes l.event-iterator.events) ≡ concat
    (map event_bytes l.initial.event-iterator.events)
