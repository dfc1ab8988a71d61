use Rattle.std.proofs.Common.{◌≡◌, arith, refl, rules, []}
use Rattle.uefi_node.specs.Layout.{fields_bytes}
use Rattle.uefi_node.specs.Messaging.{ipv4}
use Rattle.uefi_c.specs.Nodes.{ipv4_seen}
use Rattle.uefi_c.proofs.NodesWritten.{fields_needed, value_written}
use Rattle.uefi_c.proofs.nodes.ipv4.uefi_write_ipv4_node.Goals as goal

pub returns-clause-written : goal.returns-clause-written
returns-clause-written c =
    let value = ipv4_seen c.args.node.now in
    let same : c.joined-fields.result ≡ fields_bytes ipv4.fields value = search rules in
    (value_written ipv4 value c.joined-fields.result [] _ _ _ _ same refl c.write_parts-status.ensures).written

pub returns-clause-size : goal.returns-clause-size
returns-clause-size c =
    let value = ipv4_seen c.args.node.now in
    let same : c.joined-fields.result ≡ fields_bytes ipv4.fields value = search rules in
    fields_needed ipv4 value c.joined-fields.result _ _ _ _ same refl (omega arith) c.write_parts-status.ensures
