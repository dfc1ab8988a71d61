use Rattle.std.proofs.Common.{length}
use Rattle.uefi_hii.specs.Pairs.{pairs}
use Rattle.uefi_hii.specs.Views.{uncut_pairs}
use Rattle.uefi_hii.proofs.Wholes.{HasCut}
use Rattle.uefi_hii.proofs.multi.parse_all.Given as goal

abbrev pub invariant-loop-result : goal.invariant-loop-result
invariant-loop-result g l = HasCut (pairs l.text) (uncut_pairs l.configurations) l.all.items

abbrev pub decreases-loop-result : goal.decreases-loop-result
decreases-loop-result g l = length (uncut_pairs l.configurations)
