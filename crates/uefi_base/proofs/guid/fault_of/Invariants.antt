use Rattle.uefi_base.specs.GuidText.{FitsGuidBefore}
use Rattle.uefi_base.proofs.guid.fault_of.Given as goal

abbrev pub invariant-loop-index : goal.invariant-loop-index
invariant-loop-index l = FitsGuidBefore l.text l.index
