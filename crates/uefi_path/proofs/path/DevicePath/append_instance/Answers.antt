use Rattle.std.proofs.Common.{[], ◌∷◌, ◌++◌}
use Rattle.uefi_path.specs.Node.{IsEndEntire, end_entire, end_instance}
use Rattle.uefi_path.specs.Path.{all_but_last}
use Rattle.uefi_path.specs.private.OnePath.{nodes_encoded_once}
use Rattle.uefi_path.specs.Views.{path_nodes, instance_nodes, boxed_nodes}
use Rattle.uefi_path.proofs.Appending.{instance_appended}
use Rattle.uefi_path.proofs.path.DevicePath.append_instance.Goals as goal

pub new_unchecked-requires : goal.new_unchecked-requires
new_unchecked-requires g c =
    let nodes = path_nodes c.args.self.now in
    let instance = instance_nodes c.args.instance.now in (
      all_but_last nodes ++ end_instance ∷ all_but_last instance ++ end_entire ∷ [],
      instance_appended nodes instance c.nodes.result.now c.end_instance_bytes.result
          c.nodes-2.result.now c.end_entire_bytes.result c.in_ok-bytes.bytes.items c.args.self.now.nodes.1.ended
          c.args.instance.now.nodes.1.ended c.nodes.ensures c.end_instance_bytes.ensures c.nodes-2.ensures
          c.end_entire_bytes.ensures c.in_ok-bytes.ensures,
    )

pub returns : goal.returns
returns g c =
    let nodes = path_nodes c.args.self.now in
    let instance = instance_nodes c.args.instance.now in
    nodes_encoded_once IsEndEntire c.in_ok-bytes.bytes.items (boxed_nodes c.new_unchecked.result)
    (all_but_last nodes ++ end_instance ∷ all_but_last instance ++ end_entire ∷ []) c.new_unchecked.ensures
    (instance_appended nodes instance c.nodes.result.now c.end_instance_bytes.result
    c.nodes-2.result.now c.end_entire_bytes.result c.in_ok-bytes.bytes.items c.args.self.now.nodes.1.ended
    c.args.instance.now.nodes.1.ended c.nodes.ensures c.end_instance_bytes.ensures c.nodes-2.ensures
    c.end_entire_bytes.ensures c.in_ok-bytes.ensures)
