use Rattle.std.proofs.Common.{take}
use Rattle.std.specs.List.{flat_map}
use Rattle.std.specs.Fmt.{HasWritten, IsPlainFormatter}
use Rattle.shown.specs.Name.{hex_escape}
use Rattle.shown.proofs.name.write_character.Given as goal

-- The bytes so far were written.
abbrev pub invariant-loop-byte : goal.invariant-loop-byte
invariant-loop-byte g l =
    IsPlainFormatter l.fn.f
    → HasWritten g.W.Write.write_str_gives l.fn.f (flat_map hex_escape (take l.byte-index l.byte-items)) l.f
