use Rattle.std.proofs.Common.{◌≡◌, map}
use Rattle.uefi_base.proofs.cstring16.units_with_nul.Given as goal

abbrev pub invariant-loop-c : goal.invariant-loop-c
invariant-loop-c g l = l.units.items ≡ map (λ c. c) l.yielded
