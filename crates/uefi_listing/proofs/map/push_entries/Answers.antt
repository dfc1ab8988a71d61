use Rattle.uefi_map.specs.memory.Views.{entries_left}
use Rattle.uefi_listing.specs.Map.{entry_line}
use Rattle.shown.proofs.Appending.{appended_last, appended_next}
use Rattle.uefi_listing.proofs.map.push_entries.Goals as goal

pub loop-entry-preserved : goal.loop-entry-preserved
loop-entry-preserved g c =
    appended_next entry_line (entries_left c.loop-entry.entry-iterator)
    (entries_left c.next.new.self) c.in-Some.entry _ _ _ c.in-Some.ensures.steps c.in_ok-push_entry.ensures
    c.loop-entry.invariant

pub returns : goal.returns
returns g c = appended_last entry_line
    (entries_left c.loop-entry.entry-iterator) _ _ c.in-None.ensures.steps.0 c.loop-entry.invariant
