use Rattle.std.proofs.Common.{[], ◌∷◌, arith, rules}
use Rattle.uefi_map.specs.pci.ResourceList.{BeginWithRecords}
use Rattle.uefi_c.specs.Pci.{resource_seen}
use Rattle.uefi_c.proofs.PciSteps.{one_record}
use Rattle.uefi_c.proofs.pci.uefi_pci_next.Goals as goal

pub returns-in-Ok-Some-clause-resource : goal.returns-in-Ok-Some-clause-resource
returns-in-Ok-Some-clause-resource c = λ _.
    let begin : BeginWithRecords c.in-Some.rest.now (c.in-Ok-Some.resource ∷ []) c.in-Ok-Some.after.now = search rules in
    one_record c.in-Some.rest.now c.in-Ok-Some.after.now c.in-Ok-Some.resource begin c.args.list.now c.args.offset.now _
    (resource_seen c.seen.result) c.in-Some.ensures.rest (omega arith) c.seen.ensures
