use Rattle.std.proofs.Common.{◌≡◌, map, take}
use Rattle.uefi_audits.specs.diff.Differences.{event_differences}
use Rattle.uefi_audits.specs.diff.Views.{difference_of, event_difference_of}
use Rattle.uefi_audits.proofs.diff.events.event_differences.Given as goal

-- They are those before, and those of the differences so far.
abbrev pub invariant-loop-difference : goal.invariant-loop-difference
invariant-loop-difference l =
    map event_difference_of l.found.items ≡ event_differences (map difference_of (take l.difference-index l.differences))
