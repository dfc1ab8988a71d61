use Rattle.uefi_map.proofs.pci.OneList.{list_or_fault, never_both, list_alone, fault_alone}
use Rattle.uefi_map.proofs.laws.one_list.Goals as goal

pub returns : goal.returns
returns c = assumption (list_or_fault, never_both, list_alone, fault_alone)
