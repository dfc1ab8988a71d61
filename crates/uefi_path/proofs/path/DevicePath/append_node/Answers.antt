use Rattle.std.proofs.Common.{◌≡◌, [], ◌∷◌, ◌++◌, true, false}
use Rattle.uefi_path.specs.Node.{IsEndEntire, end_entire}
use Rattle.uefi_path.specs.Path.{all_but_last}
use Rattle.uefi_path.specs.private.OnePath.{nodes_encoded_once}
use Rattle.uefi_path.specs.Views.{path_nodes, node_of, boxed_nodes}
use Rattle.uefi_path.proofs.Appending.{node_appended}
use Rattle.uefi_path.proofs.path.DevicePath.append_node.Goals as goal

pub new_unchecked-requires : goal.new_unchecked-requires
new_unchecked-requires g c =
    let nodes = path_nodes c.args.self.now in
    let node = node_of c.args.node.now in (
      all_but_last nodes ++ node ∷ end_entire ∷ [],
      node_appended nodes node c.nodes.result.now c.as_bytes.result.now
          c.end_entire_bytes.result c.in_ok-bytes.bytes.items c.args.self.now.nodes.1.ended c.args.node.now.node.1.fits
          (λ so. let ends : false ≡ true = c.if-is_end_entire.ensures.1 so in cc) c.nodes.ensures c.as_bytes.ensures
          c.end_entire_bytes.ensures c.in_ok-bytes.ensures,
    )

pub returns-clause-appended : goal.returns-clause-appended
returns-clause-appended g c =
    let nodes = path_nodes c.args.self.now in
    let node = node_of c.args.node.now in
    nodes_encoded_once IsEndEntire c.in_ok-bytes.bytes.items (boxed_nodes c.new_unchecked.result)
    (all_but_last nodes ++ node ∷ end_entire ∷ []) c.new_unchecked.ensures
    (node_appended nodes node c.nodes.result.now c.as_bytes.result.now
    c.end_entire_bytes.result c.in_ok-bytes.bytes.items c.args.self.now.nodes.1.ended c.args.node.now.node.1.fits
    (λ so. let ends : false ≡ true = c.if-is_end_entire.ensures.1 so in cc) c.nodes.ensures c.as_bytes.ensures
    c.end_entire_bytes.ensures c.in_ok-bytes.ensures)
