use Rattle.std.proofs.Common.{◌≡◌, arith, refl, rules, []}
use Rattle.uefi_node.specs.Layout.{fields_bytes}
use Rattle.uefi_node.specs.Messaging.{mac_address}
use Rattle.uefi_c.specs.Nodes.{mac_seen}
use Rattle.uefi_c.proofs.NodesWritten.{fields_needed, value_written}
use Rattle.uefi_c.proofs.nodes.mac.uefi_write_mac_node.Goals as goal

pub returns-clause-written : goal.returns-clause-written
returns-clause-written c =
    let value = mac_seen c.args.node.now in
    let same : c.joined-fields.result ≡ fields_bytes mac_address.fields value = search rules in
    (value_written mac_address value c.joined-fields.result [] _ _ _ _ same refl c.write_parts-status.ensures).written

pub returns-clause-size : goal.returns-clause-size
returns-clause-size c =
    let value = mac_seen c.args.node.now in
    let same : c.joined-fields.result ≡ fields_bytes mac_address.fields value = search rules in
    fields_needed mac_address value c.joined-fields.result _ _ _ _ same refl (omega arith) c.write_parts-status.ensures
