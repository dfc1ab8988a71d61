use Rattle.uefi_c.proofs.Ucs2Units.{HasCounted}
use Rattle.uefi_c.proofs.ucs2.utf8_length.Given as goal

abbrev pub invariant-loop-index : goal.invariant-loop-index
invariant-loop-index l = HasCounted l.units l.index l.length
