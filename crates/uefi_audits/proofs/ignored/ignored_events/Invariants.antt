use Rattle.std.proofs.Common.{◌≡◌, ◌++◌, drop, map}
use Rattle.uefi_tcg.specs.LogViews.{entry_of}
use Rattle.uefi_audits.specs.Ignored.{ignored_event, ignored_events}
use Rattle.uefi_audits.specs.Numbered.{numbered}
use Rattle.uefi_audits.proofs.ignored.ignored_events.Given as goal

-- Those found so far and those among the entries to come are all.
abbrev pub invariant-loop-index : goal.invariant-loop-index
invariant-loop-index g l =
    l.found.items ++ numbered ignored_event l.index (drop l.index (map entry_of l.entries)) ≡ ignored_events (map entry_of l.entries)
