use Rattle.std.proofs.Common.{Ok, sym, subst}
use Rattle.std.proofs.lemmas.Iterator.{items_from_collect}
use Rattle.std.proofs.lemmas.Iterator.Consumers.{YieldsList-from_first}
use Rattle.std.specs.declared.alloc.AllocError.{AllocError}
use Rattle.uefi_map.specs.pci.ResourceList.{HaveOneList}
use Rattle.uefi_map.specs.pci.Views.{resources_left}
use Rattle.uefi_map.proofs.pci.parse.Goals as goal

pub returns-clause-list : goal.returns-clause-list
returns-clause-list g c =
    let collected = items_from_collect {E = AllocError} (Ok c.in_ok-collect.field-0) c.in_ok-collect.ensures.ran
    (YieldsList-from_first (λ d. d) resources_left _ c.iter.ensures.resources) in
    subst (HaveOneList c.args.bytes.now) (sym collected) c.in_ok-list.ensures.list
