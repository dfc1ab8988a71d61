use Rattle.std.proofs.Common.{◌≡◌, length, take}
use Rattle.sm3.specs.Sm3.{words}
use Rattle.sm3.proofs.compression.expand.Given as goal

abbrev pub invariant-words : goal.invariant-words
invariant-words l = (length l.words ≡ 68) × (take l.j l.words ≡ words l.block l.j)
