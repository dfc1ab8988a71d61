use Rattle.std.proofs.Common.{◌≡◌, ◌++◌, map}
use Rattle.uefi_path.specs.Views.{nodes_left}
use Rattle.audit_text.specs.parts.Contents.{node_parts}
use Rattle.audit_text.specs.parts.Part.{object}
use Rattle.audit_text.specs.private.PartViews.{value_of}
use Rattle.audit_text.proofs.parts.path.path_parts.Given as goal

-- The values so far and those of the nodes to come are those of all.
abbrev pub invariant-loop-node : goal.invariant-loop-node
invariant-loop-node l = map value_of l.nodes.items ++ map (λ it. object (node_parts it)) (nodes_left l.node-iterator)
    ≡ map (λ it. object (node_parts it)) (nodes_left l.initial.node-iterator)
