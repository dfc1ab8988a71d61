use Rattle.std.proofs.Common.{refl}
use Rattle.uefi_node.specs.Messaging.{uri}
use Rattle.uefi_c.specs.Path.{node_seen}
use Rattle.uefi_c.proofs.NodesRead.{is_found}
use Rattle.uefi_c.proofs.UriNodes.{uri_read}
use Rattle.uefi_c.proofs.nodes.uri.uefi_uri_node.Goals as goal

pub returns-clause-found : goal.returns-clause-found
returns-clause-found c =
    let node = c.args.node.now in
    is_found uri _ (node_seen node) (uri_read node.device_type node.sub_type node.data (c.if-not-is_of.ensures.0 refl))

pub returns-clause-fields : goal.returns-clause-fields
returns-clause-fields c = λ _.
    let node = c.args.node.now in
    (uri_read node.device_type node.sub_type node.data (c.if-not-is_of.ensures.0 refl)).1
