use Rattle.std.proofs.Common.{◌≡◌}
use Rattle.sm3.specs.Sm3.{rounds}
use Rattle.sm3.proofs.compression.compress.Given as goal

abbrev pub invariant-rounds : goal.invariant-rounds
invariant-rounds l = l.registers ≡ rounds l.value l.words l.j
