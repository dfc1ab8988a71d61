use Rattle.std.proofs.Common.{◌≡◌, arith, refl, rules, []}
use Rattle.uefi_node.specs.Layout.{fields_bytes}
use Rattle.uefi_node.specs.Messaging.{nvme_namespace}
use Rattle.uefi_c.specs.Nodes.{nvme_seen}
use Rattle.uefi_c.proofs.NodesWritten.{fields_needed, value_written}
use Rattle.uefi_c.proofs.nodes.nvme.uefi_write_nvme_node.Goals as goal

pub returns-clause-written : goal.returns-clause-written
returns-clause-written c =
    let value = nvme_seen c.args.node.now in
    let same : c.joined-fields.result ≡ fields_bytes nvme_namespace.fields value = search rules in
    (value_written nvme_namespace value c.joined-fields.result [] _ _ _ _ same refl c.write_parts-status.ensures).written

pub returns-clause-size : goal.returns-clause-size
returns-clause-size c =
    let value = nvme_seen c.args.node.now in
    let same : c.joined-fields.result ≡ fields_bytes nvme_namespace.fields value = search rules in
    fields_needed nvme_namespace value c.joined-fields.result _ _ _ _ same refl (omega arith) c.write_parts-status.ensures
