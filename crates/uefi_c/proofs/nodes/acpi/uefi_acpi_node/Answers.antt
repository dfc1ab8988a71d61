use Rattle.std.proofs.Common.{refl}
use Rattle.uefi_node.specs.Acpi.{acpi}
use Rattle.uefi_c.proofs.NodesRead.{fields_read, fields_sized, is_found, not_found}
use Rattle.uefi_c.specs.Path.{node_seen}
use Rattle.uefi_c.proofs.nodes.acpi.uefi_acpi_node.Goals as goal

pub returns-in_default-clause-found : goal.returns-in_default-clause-found
returns-in_default-clause-found c =
    let node = node_seen c.args.node.now in
    not_found acpi node (λ of. c.in_default.ensures.found.1 (fields_sized acpi node refl of))

pub returns-clause-found : goal.returns-clause-found
returns-clause-found c =
    is_found acpi _ (node_seen c.args.node.now) (fields_read acpi _ _ c.in-Some.fields.now refl
    c.in-Some.ensures.fields c.in-Some.ensures.bytes (c.in-Some.ensures.found.0 refl)
    (record { fields = (c.u32_at.ensures, (c.u32_at-2.ensures, tt)); rest = tt; value = refl; form = tt }))

pub returns-clause-fields : goal.returns-clause-fields
returns-clause-fields c = λ _.
    (fields_read acpi _ (node_seen c.args.node.now) c.in-Some.fields.now refl
    c.in-Some.ensures.fields c.in-Some.ensures.bytes (c.in-Some.ensures.found.0 refl)
    (record { fields = (c.u32_at.ensures, (c.u32_at-2.ensures, tt)); rest = tt; value = refl; form = tt })).1
