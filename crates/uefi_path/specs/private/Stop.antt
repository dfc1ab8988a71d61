-- Where a walk over nodes stops.
use Rattle.uefi_path.specs.declared.walk.StopCondition.{StopCondition}
use Rattle.uefi_path.specs.declared.walk.StopCondition.TheVariants.{AnyEndNode, EndEntireNode}
use Rattle.uefi_path.specs.Node.{Node, IsEnd, IsEndEntire}
use Rattle.uefi_path.specs.private.OnePath.{IsEnd-prop, IsEndEntire-prop}

-- The walk stops at the node.
abbrev pub Stops : StopCondition → Node → Type 0
Stops AnyEndNode node = IsEnd node
Stops EndEntireNode node = IsEndEntire node

-- There is at most one proof that the walk stops at the node.
pub Stops-prop : (stop : StopCondition) (node : Node) → IsProp (Stops stop node)
Stops-prop AnyEndNode node = IsEnd-prop node
Stops-prop EndEntireNode node = IsEndEntire-prop node
