use Rattle.uefi_c.proofs.Ucs2Units.{HasFirst}
use Rattle.uefi_c.proofs.ucs2.write_text.Given as goal

abbrev pub invariant-loop-index : goal.invariant-loop-index
invariant-loop-index l = HasFirst l.units l.initial.buffer l.buffer l.index l.offset
