use Rattle.std.proofs.Common.{◌≡◌, ◌++◌, string_bytes, flat_map}
use Rattle.uefi_map.specs.memory.Map.{entries_of}
use Rattle.uefi_map.specs.memory.Views.{ref_bytes, ref_meta, entries_left}
use Rattle.uefi_listing.specs.Map.{entry_line}
use Rattle.uefi_listing.proofs.map.push_entries.Given as goal

abbrev pub invariant-loop-entry : goal.invariant-loop-entry
invariant-loop-entry g l =
    string_bytes l.text ++ flat_map entry_line (entries_left l.entry-iterator) ≡ string_bytes l.initial.text
    ++ flat_map entry_line (entries_of (ref_bytes l.map) (ref_meta l.map))
