use Rattle.std.proofs.Common.{length}
use Rattle.uefi_path.specs.Node.{IsEndEntire}
use Rattle.uefi_path.proofs.Passing.{HasPassed}
use Rattle.uefi_c.proofs.path.uefi_path_fault.Given as goal

abbrev pub invariant-loop-node : goal.invariant-loop-node
invariant-loop-node l = HasPassed IsEndEntire l.path l.rest

abbrev pub decreases-loop-node : goal.decreases-loop-node
decreases-loop-node l = length l.rest
