use Rattle.std.proofs.Common.{refl}
use Rattle.uefi_node.specs.Messaging.{ipv4}
use Rattle.uefi_c.proofs.NodesRead.{fields_read, fields_sized, is_found, not_found}
use Rattle.uefi_c.specs.Path.{node_seen}
use Rattle.uefi_c.proofs.nodes.ipv4.uefi_ipv4_node.Goals as goal

pub returns-in_default-clause-found : goal.returns-in_default-clause-found
returns-in_default-clause-found c =
    let node = node_seen c.args.node.now in
    not_found ipv4 node (λ of. c.in_default.ensures.found.1 (fields_sized ipv4 node refl of))

pub returns-clause-found : goal.returns-clause-found
returns-clause-found c =
    is_found ipv4 _ (node_seen c.args.node.now) (fields_read ipv4 _ _ c.in-Some.fields.now refl
    c.in-Some.ensures.fields c.in-Some.ensures.bytes (c.in-Some.ensures.found.0 refl)
    (record { fields = (c.bytes_at.ensures, (c.bytes_at-2.ensures, (c.u16_at.ensures, (c.u16_at-2.ensures, (c.u16_at-3.ensures, (refl, (c.bytes_at-3.ensures, (c.bytes_at-4.ensures, tt)))))))); rest = tt; value = refl; form = tt }))

pub returns-clause-fields : goal.returns-clause-fields
returns-clause-fields c = λ _.
    (fields_read ipv4 _ (node_seen c.args.node.now) c.in-Some.fields.now refl
    c.in-Some.ensures.fields c.in-Some.ensures.bytes (c.in-Some.ensures.found.0 refl)
    (record { fields = (c.bytes_at.ensures, (c.bytes_at-2.ensures, (c.u16_at.ensures, (c.u16_at-2.ensures, (c.u16_at-3.ensures, (refl, (c.bytes_at-3.ensures, (c.bytes_at-4.ensures, tt)))))))); rest = tt; value = refl; form = tt })).1
