use Rattle.std.proofs.Common.{◌≡◌, ◌++◌, flat_map}
use Rattle.uefi_path.specs.Path.{all_but_last}
use Rattle.uefi_path.specs.Views.{path_nodes, nodes_left}
use Rattle.uefi_examples.proofs.path.all_data.Given as goal

abbrev pub invariant-loop-node : goal.invariant-loop-node
invariant-loop-node l =
    l.bytes.items ++ flat_map (λ node. node.payload) (nodes_left l.node-iterator)
    ≡ flat_map (λ node. node.payload) (all_but_last (path_nodes l.path))
