use Rattle.std.proofs.Common.{length}
use Rattle.uefi_path.specs.private.Encoding.{HasNodes}
use Rattle.uefi_path.specs.private.Stop.{Stops}
use Rattle.uefi_path.proofs.Passing.{HasPassed}
use Rattle.uefi_path.proofs.walk.end_node.Given as goal

abbrev pub invariant-loop-after : goal.invariant-loop-after
invariant-loop-after l = record {
  passed : HasPassed (Stops l.stop) l.bytes l.rest;
  left : HasNodes (Stops l.stop) l.rest;
}

abbrev pub decreases-loop-after : goal.decreases-loop-after
decreases-loop-after l = length l.rest
