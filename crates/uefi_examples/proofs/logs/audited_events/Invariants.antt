use Rattle.std.proofs.Common.{◌++◌, map}
use Rattle.uefi_tcg.specs.v1.Log.{IsLog}
use Rattle.uefi_tcg.specs.v1.Views.{event_of}
use Rattle.uefi_examples.proofs.logs.audited_events.Given as goal

-- The events so far and those to come are the log.
abbrev pub invariant-loop-event : goal.invariant-loop-event
invariant-loop-event l = IsLog l.bytes l.last_entry (map event_of l.events.items ++ l.event-iterator.events)
