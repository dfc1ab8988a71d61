use Rattle.std.proofs.Common.{◌≡◌, ◌++◌, map, take}
use Rattle.uefi_audits.specs.diff.Differences.{event_only_new}
use Rattle.uefi_audits.specs.diff.Views.{event_difference_of, numbered_of}
use Rattle.uefi_audits.proofs.diff.events.push_only_new.Given as goal

-- They are those before, and those of the events so far.
abbrev pub invariant-loop-entry : goal.invariant-loop-entry
invariant-loop-entry l =
    map event_difference_of l.found.items
    ≡ map event_difference_of l.initial.found.items ++ map event_only_new (map numbered_of (take l.entry-index l.only))
