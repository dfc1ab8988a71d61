use Rattle.std.specs.List.{All}
use Rattle.uefi_path.specs.Path.{all_but_last}
use Rattle.uefi_path.specs.Views.{nodes_left, path_nodes}
use Rattle.uefi_node.specs.Layout.{IsNodeAs}
use Rattle.uefi_node.specs.Media.{hard_drive}
use Rattle.uefi_node.specs.declared.media.hard_drive.HardDrive.{HardDrive}
use Rattle.uefi_examples.proofs.contracts.partition.partition_of.Given as goal

-- If no node that is left is a partition, none of the path is.
abbrev pub invariant-loop-node : goal.invariant-loop-node
invariant-loop-node l =
    All (λ node. (drive : HardDrive) → ¬ IsNodeAs hard_drive drive node) (nodes_left l.node-iterator)
    → All (λ node. (drive : HardDrive) → ¬ IsNodeAs hard_drive drive node) (all_but_last (path_nodes l.path))
