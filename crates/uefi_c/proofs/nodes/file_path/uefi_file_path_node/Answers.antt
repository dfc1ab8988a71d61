use Rattle.std.proofs.Common.{refl}
use Rattle.uefi_c.specs.Path.{node_seen}
use Rattle.uefi_c.proofs.FilePathNodes.{other_numbers, other_units, path_found}
use Rattle.uefi_c.proofs.nodes.file_path.uefi_file_path_node.Goals.{then-not-is_of-via-then-not-is_of, then-not-is_of-via-else-not-is_of+then-not-are_units}
use Rattle.uefi_c.proofs.nodes.file_path.uefi_file_path_node.Goals as goal

pub returns-then-not-is_of-clause-found : goal.returns-then-not-is_of-clause-found
returns-then-not-is_of-clause-found c =
    let node = node_seen c.args.node.now in
    elim c.then-not-is_of.branch [
      | then-not-is_of-via-then-not-is_of w ↦ other_numbers node w.if-not-is_of.ensures.1
      | then-not-is_of-via-else-not-is_of+then-not-are_units w ↦
          other_units node (w.if-not-is_of.ensures.0 refl) w.if-not-are_units.ensures.1
    ]

pub returns-clause-found : goal.returns-clause-found
returns-clause-found c =
    path_found (node_seen c.args.node.now) (c.if-not-is_of.ensures.0 refl) (c.if-not-are_units.ensures.0 refl)
