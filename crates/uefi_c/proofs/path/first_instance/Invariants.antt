use Rattle.std.proofs.Common.{length}
use Rattle.uefi_path.specs.Node.{IsEnd}
use Rattle.uefi_path.proofs.Passing.{HasPassed}
use Rattle.uefi_c.proofs.path.first_instance.Given as goal

abbrev pub invariant-loop-node : goal.invariant-loop-node
invariant-loop-node l = HasPassed IsEnd l.bytes l.rest

abbrev pub decreases-loop-node : goal.decreases-loop-node
decreases-loop-node l = length l.rest
