use Rattle.std.proofs.Common.{refl, []}
use Rattle.uefi_node.specs.Messaging.{uri}
use Rattle.uefi_c.specs.Nodes.{uri_seen}
use Rattle.uefi_c.proofs.NodesWritten.{value_written}
use Rattle.uefi_c.proofs.nodes.uri.uefi_write_uri_node.Goals as goal

pub returns-clause-too_long : goal.returns-clause-too_long
returns-clause-too_long c =
    let node = c.args.node.now in
    (value_written uri (uri_seen node) [] node.uri.now _ _ _ _ refl refl c.write_parts-status.ensures).long

pub returns-clause-written : goal.returns-clause-written
returns-clause-written c =
    let node = c.args.node.now in
    (value_written uri (uri_seen node) [] node.uri.now _ _ _ _ refl refl c.write_parts-status.ensures).written

pub returns-clause-size : goal.returns-clause-size
returns-clause-size c =
    let node = c.args.node.now in
    (value_written uri (uri_seen node) [] node.uri.now _ _ _ _ refl refl c.write_parts-status.ensures).needed
