use Rattle.std.proofs.Common.{◌*◌}
use Rattle.uefi_hii.specs.private.Filling.{IsFilledTo}
use Rattle.uefi_hii.proofs.filling.fill_from_hex.Given as goal

abbrev pub invariant-loop-block : goal.invariant-loop-block
invariant-loop-block l = IsFilledTo (16 * l.block) l.text l.out
