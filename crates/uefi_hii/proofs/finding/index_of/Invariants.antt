use Rattle.std.proofs.Common.{◌-◌, ◌≤◌, length}
use Rattle.uefi_hii.specs.private.Finding.{IsNotBefore}
use Rattle.uefi_hii.proofs.finding.index_of.Given as goal

abbrev pub invariant-loop-index : goal.invariant-loop-index
invariant-loop-index l = record {
  within : l.index ≤ length l.bytes;
  none_before : IsNotBefore l.byte l.index l.bytes;
}

abbrev pub decreases-loop-index : goal.decreases-loop-index
decreases-loop-index l = length l.bytes - l.index
