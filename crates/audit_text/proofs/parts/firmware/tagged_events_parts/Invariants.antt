use Rattle.std.proofs.Common.{◌≡◌, ◌++◌, map}
use Rattle.audit_text.specs.parts.Contents.{tagged_parts}
use Rattle.audit_text.specs.parts.Part.{object}
use Rattle.audit_text.specs.private.PartViews.{value_of}
use Rattle.audit_text.proofs.parts.firmware.tagged_events_parts.Given as goal

-- The values so far and those of the tagged events to come are those of all.
abbrev pub invariant-loop-event : goal.invariant-loop-event
invariant-loop-event l = map value_of l.events.items ++ map (λ it. object (tagged_parts it)) l.event-iterator.events
    ≡ map (λ it. object (tagged_parts it)) l.initial.event-iterator.events
