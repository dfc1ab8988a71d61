use Rattle.std.proofs.Common.{◌≡◌, ◌++◌, map, take}
use Rattle.uefi_audits.specs.diff.Differences.{event_changed}
use Rattle.uefi_audits.specs.diff.Views.{change_of, event_difference_of}
use Rattle.uefi_audits.proofs.diff.events.push_changed.Given as goal

-- They are those before, and those of the events so far.
abbrev pub invariant-loop-change : goal.invariant-loop-change
invariant-loop-change l =
    map event_difference_of l.found.items
    ≡ map event_difference_of l.initial.found.items ++ map event_changed (map change_of (take l.change-index l.changes))
