use Rattle.std.proofs.Common.{length}
use Rattle.uefi_hii.specs.Views.{configuration_of, peeked_pairs}
use Rattle.uefi_hii.proofs.Elements.{ComesBefore}
use Rattle.uefi_hii.proofs.reading.read_group.Given as goal

abbrev pub invariant-loop-configuration : goal.invariant-loop-configuration
invariant-loop-configuration g l =
    ComesBefore (peeked_pairs l.fn.pairs) (peeked_pairs l.pairs) (configuration_of l.configuration)

abbrev pub decreases-loop-configuration : goal.decreases-loop-configuration
decreases-loop-configuration g l = length (peeked_pairs l.pairs)
