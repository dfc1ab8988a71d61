use Rattle.std.proofs.Common.{◌-◌, length}
use Rattle.uefi_map.specs.memory.Map.{IsMap, count_of}
use Rattle.uefi_c.specs.Map.{sizes_of}
use Rattle.uefi_c.proofs.MapSteps.{Seen}
use Rattle.uefi_c.proofs.callers.map.entries_by_steps.Given as goal

abbrev pub invariant-loop-entry : goal.invariant-loop-entry
invariant-loop-entry g l =
    let sizes = sizes_of (length l.bytes) l.stride in
    IsMap (length l.bytes) sizes → Seen l.bytes sizes l.index l.views.items

abbrev pub decreases-loop-entry : goal.decreases-loop-entry
decreases-loop-entry g l = count_of (sizes_of (length l.bytes) l.stride) - l.index
