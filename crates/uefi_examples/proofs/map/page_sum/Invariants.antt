use Rattle.std.proofs.Common.{◌≡◌, ◌+◌}
use Rattle.std.specs.Prelude.{sum_by}
use Rattle.uefi_map.specs.memory.Map.{entries_of}
use Rattle.uefi_map.specs.memory.Views.{entries_left}
use Rattle.uefi_examples.proofs.map.page_sum.Given as goal

abbrev pub invariant-loop-entry : goal.invariant-loop-entry
invariant-loop-entry g l =
    let map = g.M.MemoryMap in
    l.pages + sum_by (λ d. d.page_count) (entries_left l.entry-iterator)
    ≡ sum_by (λ d. d.page_count) (entries_of (map.bytes l.map) (map.meta l.map))
