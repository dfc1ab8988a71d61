use Rattle.std.proofs.Common.{◌≡◌, ◌-◌, List, length}
use Rattle.uefi_path.specs.Node.{Node, joined, IsEnd, IsEndEntire}
use Rattle.uefi_path.specs.Path.{IsPath, IsInstance}
use Rattle.uefi_c.proofs.PathSteps.{Left}
use Rattle.uefi_c.proofs.callers.nodes.nodes_by_steps.Given as goal

abbrev pub invariant-loop-node : goal.invariant-loop-node
invariant-loop-node g l =
    ((nodes : List Node) → IsPath nodes → l.path ≡ joined nodes → Left IsEndEntire nodes l.path l.offset l.views.items)
    × ((nodes : List Node) → IsInstance nodes → l.path ≡ joined nodes → Left IsEnd nodes l.path l.offset l.views.items)

abbrev pub decreases-loop-node : goal.decreases-loop-node
decreases-loop-node g l = length l.path - l.offset
