use Rattle.std.proofs.Common.{◌≡◌, ◌++◌, map, filter}
use Rattle.std.specs.Prelude.{◌==◌}
use Rattle.uefi_tcg.specs.v2.Views.{event_of}
use Rattle.uefi_examples.proofs.contracts.pcr.events_of_pcr.Given as goal

-- Those that were found, and those of the PCR that are left.
abbrev pub invariant-loop-event : goal.invariant-loop-event
invariant-loop-event l =
    map event_of l.events.items ++ filter (λ event. event.pcr_index == l.pcr.0) l.event-iterator.events
    ≡ filter (λ event. event.pcr_index == l.pcr.0) l.initial.event-iterator.events
