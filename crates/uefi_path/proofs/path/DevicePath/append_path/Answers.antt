use Rattle.std.proofs.Common.{◌++◌}
use Rattle.uefi_path.specs.Node.{IsEndEntire}
use Rattle.uefi_path.specs.Path.{all_but_last}
use Rattle.uefi_path.specs.private.OnePath.{nodes_encoded_once}
use Rattle.uefi_path.specs.Views.{path_nodes, boxed_nodes}
use Rattle.uefi_path.proofs.Appending.{path_appended}
use Rattle.uefi_path.proofs.path.DevicePath.append_path.Goals as goal

pub new_unchecked-requires : goal.new_unchecked-requires
new_unchecked-requires g c =
    let nodes = path_nodes c.args.self.now in
    let others = path_nodes c.args.other.now in (
      all_but_last nodes ++ others,
      path_appended nodes others c.nodes.result.now c.as_bytes.result.now
          c.in_ok-bytes.bytes.items c.args.self.now.nodes.1.ended c.as_bytes.ensures.path c.nodes.ensures
          c.as_bytes.ensures.bytes c.in_ok-bytes.ensures,
    )

pub returns : goal.returns
returns g c =
    let nodes = path_nodes c.args.self.now in
    let others = path_nodes c.args.other.now in
    nodes_encoded_once IsEndEntire c.in_ok-bytes.bytes.items (boxed_nodes c.new_unchecked.result)
    (all_but_last nodes ++ others) c.new_unchecked.ensures
    (path_appended nodes others c.nodes.result.now c.as_bytes.result.now
    c.in_ok-bytes.bytes.items c.args.self.now.nodes.1.ended c.as_bytes.ensures.path c.nodes.ensures
    c.as_bytes.ensures.bytes c.in_ok-bytes.ensures)
