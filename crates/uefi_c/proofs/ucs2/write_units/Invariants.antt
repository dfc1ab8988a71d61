use Rattle.std.proofs.Common.{map}
use Rattle.uefi_c.proofs.Ucs2Puts.{HasUnits}
use Rattle.uefi_c.proofs.ucs2.write_units.Given as goal

abbrev pub invariant-loop-c : goal.invariant-loop-c
invariant-loop-c l = HasUnits (map (λ c. c) l.yielded) l.initial.buffer l.buffer l.offset
