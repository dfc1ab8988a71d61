use Rattle.std.proofs.Common.{refl}
use Rattle.uefi_node.specs.Hardware.{pci}
use Rattle.uefi_c.proofs.NodesRead.{fields_read, fields_sized, is_found, not_found}
use Rattle.uefi_c.specs.Path.{node_seen}
use Rattle.uefi_c.proofs.nodes.pci.uefi_pci_node.Goals as goal

pub returns-in_default-clause-found : goal.returns-in_default-clause-found
returns-in_default-clause-found c =
    let node = node_seen c.args.node.now in
    not_found pci node (λ of. c.in_default.ensures.found.1 (fields_sized pci node refl of))

pub returns-clause-found : goal.returns-clause-found
returns-clause-found c =
    is_found pci _ (node_seen c.args.node.now) (fields_read pci _ _ c.in-Some.fields.now refl
    c.in-Some.ensures.fields c.in-Some.ensures.bytes (c.in-Some.ensures.found.0 refl)
    (record { fields = (refl, (refl, tt)); rest = tt; value = refl; form = tt }))

pub returns-clause-fields : goal.returns-clause-fields
returns-clause-fields c = λ _.
    (fields_read pci _ (node_seen c.args.node.now) c.in-Some.fields.now refl
    c.in-Some.ensures.fields c.in-Some.ensures.bytes (c.in-Some.ensures.found.0 refl)
    (record { fields = (refl, (refl, tt)); rest = tt; value = refl; form = tt })).1
