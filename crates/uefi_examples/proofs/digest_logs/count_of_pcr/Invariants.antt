use Rattle.std.proofs.Common.{◌≡◌, ◌+◌, ◌≤◌, length}
use Rattle.std.specs.Prelude.{◌==◌, count_by}
use Rattle.uefi_examples.proofs.digest_logs.count_of_pcr.Given as goal

-- Those that were counted and those among the events to come are all of the PCR.
abbrev pub invariant-loop-event : goal.invariant-loop-event
invariant-loop-event l = record {
  counted : l.count + count_by (λ event. event.pcr_index == l.pcr.0) l.event-iterator.events ≡ count_by
      (λ event. event.pcr_index == l.pcr.0) l.initial.event-iterator.events;
  within : l.count + length l.event-iterator.events ≤ length l.initial.event-iterator.events;
}
