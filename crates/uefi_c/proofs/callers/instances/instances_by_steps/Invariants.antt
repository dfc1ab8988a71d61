use Rattle.std.proofs.Common.{◌≡◌, ◌-◌, List, length, map}
use Rattle.uefi_path.specs.Node.{Node, joined}
use Rattle.uefi_path.specs.Path.{AreInstances}
use Rattle.uefi_c.proofs.PathSteps.{LeftInstances}
use Rattle.uefi_c.proofs.callers.instances.instances_by_steps.Given as goal

abbrev pub invariant-loop-instance : goal.invariant-loop-instance
invariant-loop-instance g l =
    (nodes : List Node) (instances : List (List Node)) → l.path ≡ joined nodes → AreInstances instances nodes
    → LeftInstances instances l.path l.offset (map (λ part. part.now) l.parts.items)

abbrev pub decreases-loop-instance : goal.decreases-loop-instance
decreases-loop-instance g l = length l.path - l.offset
