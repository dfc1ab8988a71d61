use Rattle.std.proofs.Common.{◌≡◌, ℕ, List, ◌++◌, append_assoc, codes, flat_map, length}
use Rattle.std.specs.Fmt.{decimal}
use Rattle.shown.proofs.Appending.{appended_last, appended_next}
use Rattle.uefi_path.specs.Node.{Node, joined}
use Rattle.uefi_path.specs.Path.{all_but_last}
use Rattle.uefi_path.specs.Views.{node_of, instance_nodes, nodes_left}
use Rattle.uefi_listing.specs.Path.{node_line, instance_lines}
use Rattle.uefi_listing.proofs.path.push_instance.Goals as goal

pub loop-node-preserved : goal.loop-node-preserved
loop-node-preserved g c =
    appended_next node_line (nodes_left c.loop-node.node-iterator) (nodes_left c.next.new.self)
    (node_of c.in-Some.node) _ _ _
    c.in-Some.ensures.steps c.in_ok-push_node.ensures c.loop-node.invariant

-- The line of the length, and then those of the nodes.
whole : (nodes : List Node) (bytes old now new : List ℕ) → bytes ≡ joined nodes
    → now ≡ old ++ (codes "instance " ++ (decimal (length bytes) ++ codes "\n"))
    → new ≡ now ++ flat_map node_line (all_but_last nodes) → new ≡ old ++ instance_lines nodes
unfolding instance_lines
whole nodes bytes old now new is first lines = simp append_assoc (simp (first, is, append_assoc) at lines)

pub returns : goal.returns
returns g c =
    whole (instance_nodes c.args.instance.now) c.as_bytes.result.now _ _ _ c.as_bytes.ensures.bytes
    c.in_ok-writeln.ensures.bytes
    (appended_last node_line (nodes_left c.loop-node.node-iterator) _ _ c.in-None.ensures.steps.0 c.loop-node.invariant)
