use Rattle.std.proofs.Common.{append_assoc}
use Rattle.std.proofs.lemmas.List.{append-nil}
use Rattle.uefi_examples.proofs.path.all_data.Goals as goal

pub loop-node-preserved : goal.loop-node-preserved
loop-node-preserved c = simp (c.in_ok-extend_from_slice.ensures.items, c.data.ensures, append_assoc)
    (rw c.in-Some.ensures.steps at c.loop-node.invariant)

pub returns : goal.returns
returns c = simp (c.in-None.ensures.steps.0, append-nil) at c.loop-node.invariant
