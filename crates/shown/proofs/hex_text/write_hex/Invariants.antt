use Rattle.std.proofs.Common.{length}
use Rattle.std.specs.Fmt.{IsPlainFormatter}
use Rattle.shown.proofs.HexBlocks.{HasRestToWrite}
use Rattle.shown.proofs.hex_text.write_hex.Given as goal

abbrev pub invariant-loop-rest : goal.invariant-loop-rest
invariant-loop-rest g l = IsPlainFormatter l.initial.f
    → HasRestToWrite g.W.Write.write_str_gives l.initial.f l.bytes l.f l.rest

abbrev pub decreases-loop-rest : goal.decreases-loop-rest
decreases-loop-rest g l = length l.rest
