use Rattle.std.proofs.Common.{length}
use Rattle.uefi_node.proofs.write.+length_of.Given as goal

abbrev pub decreases-length_of : goal.decreases-length_of
decreases-length_of l = length l.parts.now
