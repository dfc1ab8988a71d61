use Rattle.std.proofs.Common.{◌≡◌, ◌++◌, ◌-◌, length, map, drop}
use Rattle.uefi_hii.specs.Pairs.{pairs}
use Rattle.uefi_c.specs.Config.{pair_seen}
use Rattle.uefi_c.proofs.callers.pairs.pairs_by_steps.Given as goal

-- The pairs that were seen and those that are left are the text's.
abbrev pub invariant-loop-pair : goal.invariant-loop-pair
invariant-loop-pair g l = map pair_seen l.views.items ++ pairs (drop l.offset l.text) ≡ pairs l.text

abbrev pub decreases-loop-pair : goal.decreases-loop-pair
decreases-loop-pair g l = length l.text - l.offset
