use Rattle.uefi_hii.specs.private.Filling.{IsFilledTo}
use Rattle.uefi_hii.proofs.filling.fill_each.Given as goal

abbrev pub invariant-loop-index : goal.invariant-loop-index
invariant-loop-index l = IsFilledTo l.index l.text l.out
