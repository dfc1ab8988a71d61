use Rattle.std.proofs.Common.{◌≡◌, ◌++◌, length, map}
use Rattle.std.specs.List.{AllByRecursion}
use Rattle.uefi_hii.specs.Configuration.{IsSkipped}
use Rattle.uefi_hii.specs.Views.{nv_pair_of, peeked_pairs}
use Rattle.uefi_hii.proofs.taking.take_nvconfig.Given as goal

-- The pairs that were kept so far, and those that are left.
abbrev pub invariant-loop-key : goal.invariant-loop-key
invariant-loop-key g l =
    (peeked_pairs l.fn.pairs ≡ map nv_pair_of l.nvconfig.items ++ peeked_pairs l.pairs)
    × AllByRecursion IsSkipped (map nv_pair_of l.nvconfig.items)

abbrev pub decreases-loop-key : goal.decreases-loop-key
decreases-loop-key g l = length (peeked_pairs l.pairs)
