use Rattle.std.proofs.Common.{[], ◌∷◌, ◌++◌}
use Rattle.uefi_path.specs.Node.{IsEndEntire, end_entire}
use Rattle.uefi_path.specs.private.OnePath.{nodes_encoded_once}
use Rattle.uefi_path.specs.Views.{boxed_nodes}
use Rattle.uefi_path.specs.build.Views.{vec_built_nodes}
use Rattle.uefi_path.proofs.Building.{ended_after}
use Rattle.uefi_path.proofs.build.vec_builder.DevicePathVecBuilder.finalize.Goals as goal

pub new_unchecked-requires : goal.new_unchecked-requires
new_unchecked-requires g c = (
  vec_built_nodes c.args.self ++ end_entire ∷ [],
  ended_after c.args.self.bytes.items c.end_entire_bytes.result c.extend_from_slice.new.self.items
      (vec_built_nodes c.args.self) c.args.self.nodes.1 c.end_entire_bytes.ensures c.in_ok-extend_from_slice.ensures.items,
)

pub returns-clause-nodes : goal.returns-clause-nodes
returns-clause-nodes g c =
    nodes_encoded_once IsEndEntire c.extend_from_slice.new.self.items (boxed_nodes c.new_unchecked.result)
    (vec_built_nodes c.args.self ++ end_entire ∷ []) c.new_unchecked.ensures
    (ended_after c.args.self.bytes.items c.end_entire_bytes.result c.extend_from_slice.new.self.items
    (vec_built_nodes c.args.self) c.args.self.nodes.1 c.end_entire_bytes.ensures
    c.in_ok-extend_from_slice.ensures.items)
