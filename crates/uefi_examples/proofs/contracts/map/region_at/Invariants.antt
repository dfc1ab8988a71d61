use Rattle.std.proofs.Common.{◌≡◌, ◌-◌, ◌/◌, ◌&&◌, nat_le, nat_lt}
use Rattle.std.specs.List.{find}
use Rattle.uefi_map.specs.memory.Map.{entries_of}
use Rattle.uefi_map.specs.memory.Views.{entries_left}
use Rattle.uefi_examples.proofs.contracts.map.region_at.Given as goal

-- The region is sought among those that are left.
abbrev pub invariant-loop-region : goal.invariant-loop-region
invariant-loop-region l =
    find (λ region. nat_le region.phys_start l.address && nat_lt
    ((l.address - region.phys_start) / 4096) region.page_count) (entries_left l.region-iterator)
    ≡ find (λ region. nat_le region.phys_start l.address && nat_lt
    ((l.address - region.phys_start) / 4096) region.page_count) (entries_of l.bytes l.fn.meta)
