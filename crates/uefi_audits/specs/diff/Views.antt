-- What values stand for: words that contracts name them by.
use Rattle.std.specs.Prelude.{ℕ, List, map, option_map}
use Rattle.uefi_tcg.specs.LogViews.{entry_of}
use Rattle.uefi_tcg.specs.declared.algorithm_id.AlgorithmId.{AlgorithmId}
use Rattle.uefi_audits.specs.content.Views.{content_of}
use Rattle.uefi_audits.specs.diff.Counterparts.{Name}
use Rattle.uefi_audits.specs.diff.Differences as differences
use Rattle.uefi_audits.specs.diff.Differences.{Change, Difference, Parts, event_changed, event_moved, event_only_new, event_only_old}
use Rattle.uefi_audits.specs.diff.Numbered.{Numbered}
use Rattle.uefi_audits.specs.declared.diff.compared.ComparedParts.{ComparedParts}
use Rattle.uefi_audits.specs.declared.diff.difference.EventChange.{EventChange}
use Rattle.uefi_audits.specs.declared.diff.difference.PcrDifference.{PcrDifference}
use Rattle.uefi_audits.specs.declared.diff.events.EventDifference.{EventDifference}
use Rattle.uefi_audits.specs.declared.diff.events.EventDifference.TheVariants.{Changed, Moved, OnlyNew, OnlyOld}
use Rattle.uefi_audits.specs.declared.diff.names.EventName.{EventName}
use Rattle.uefi_audits.specs.declared.diff.pcr.NumberedEntry.{NumberedEntry}

-- The numbers of algorithms.
abbrev pub numbers_of : List AlgorithmId → List ℕ
numbers_of algorithms = map (λ algorithm. algorithm.0) algorithms

-- Which parts of events are compared.
abbrev pub parts_of : ComparedParts → Parts
parts_of parts = record { algorithms = numbers_of parts.algorithms.now; with_data = parts.with_data }

-- An entry with its index and what its data say.
abbrev pub numbered_of : NumberedEntry → Numbered
numbered_of found = record { index = found.index; entry = entry_of found.entry; content = content_of found.content }

-- The name that data have.
abbrev pub name_of : EventName → Name
name_of name = record { namespace = name.namespace.now; name = name.name.now }

-- What changed in an event, and how the events of a PCR differ.
abbrev pub change_of : EventChange → Change
change_of change = record { old = numbered_of change.old; new = numbered_of change.new }

abbrev pub difference_of : PcrDifference → Difference
difference_of difference = record {
  pcr = difference.pcr;
  changed = map change_of difference.changed.items;
  only_old = map numbered_of difference.only_old.items;
  only_new = map numbered_of difference.only_new.items;
  moved = option_map change_of difference.moved;
}

-- A difference in one event.
abbrev pub event_difference_of : EventDifference → differences.EventDifference
event_difference_of (Changed change) = event_changed (change_of change.now)
event_difference_of (OnlyOld found) = event_only_old (numbered_of found.now)
event_difference_of (OnlyNew found) = event_only_new (numbered_of found.now)
event_difference_of (Moved change) = event_moved (change_of change.now)
