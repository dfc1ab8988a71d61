use Rattle.std.proofs.Common.{◌≡◌, ◌++◌, ◌∙◌, refl, sym, rules, length, Some}
use Rattle.uefi_c.specs.Path.{node_seen}
use Rattle.uefi_c.proofs.VendorNodes.{is_one, other_numbers, too_few, vendor_is}
use Rattle.uefi_c.proofs.nodes.vendor.uefi_vendor_node.Goals as goal

pub returns-then-not-is_vendor-clause-found : goal.returns-then-not-is_vendor-clause-found
returns-then-not-is_vendor-clause-found c = other_numbers (node_seen c.args.node.now) c.if-not-is_vendor.ensures.1

pub returns-in_default-clause-found : goal.returns-in_default-clause-found
returns-in_default-clause-found c = too_few (node_seen c.args.node.now) c.in_default.ensures.cases

pub returns-clause-found : goal.returns-clause-found
returns-clause-found c =
    let node = c.args.node.now in
    let guid = c.in-Some.vendor_guid in
    let rest = c.in-Some.vendor_defined_data in
    let sized : length guid.now ≡ 16 = search rules in
    let joined : node.data.now ≡ guid.now ++ rest.now = search rules in
    is_one node.device_type node.sub_type node.data.now guid rest (c.if-not-is_vendor.ensures.0 refl) sized joined

pub returns-clause-fields : goal.returns-clause-fields
returns-clause-fields c = λ _.
    let node = c.args.node.now in
    let guid = c.in-Some.vendor_guid.now in
    let rest = c.in-Some.vendor_defined_data.now in
    let joined : node.data.now ≡ guid ++ rest = search rules in
    vendor_is _ node.sub_type (c.if-not-is_vendor.ensures.0 refl)
    ∙ (λ i. Some (record { device_type = node.device_type; sub_type = node.sub_type; payload = sym joined i }))
