use Rattle.std.proofs.Common.{◌≡◌, ◌++◌, string_bytes, flat_map}
use Rattle.uefi_path.specs.Path.{all_but_last}
use Rattle.uefi_path.specs.Views.{instance_nodes, nodes_left}
use Rattle.uefi_listing.specs.Path.{node_line}
use Rattle.uefi_listing.proofs.path.push_instance.Given as goal

abbrev pub invariant-loop-node : goal.invariant-loop-node
invariant-loop-node g l =
    string_bytes l.text ++ flat_map node_line (nodes_left l.node-iterator) ≡ string_bytes l.initial.text
    ++ flat_map node_line (all_but_last (instance_nodes l.instance))
