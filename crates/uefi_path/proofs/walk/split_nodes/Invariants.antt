use Rattle.std.proofs.Common.{length}
use Rattle.uefi_path.specs.private.Stop.{Stops}
use Rattle.uefi_path.proofs.Passing.{HasPassed}
use Rattle.uefi_path.proofs.walk.split_nodes.Given as goal

abbrev pub invariant-loop-node : goal.invariant-loop-node
invariant-loop-node l = HasPassed (Stops l.stop) l.bytes l.rest

abbrev pub decreases-loop-node : goal.decreases-loop-node
decreases-loop-node l = length l.rest
