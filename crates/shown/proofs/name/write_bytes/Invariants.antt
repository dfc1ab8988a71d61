use Rattle.std.proofs.Common.{take}
use Rattle.std.specs.List.{flat_map}
use Rattle.std.specs.Fmt.{HasWritten, IsPlainFormatter}
use Rattle.shown.specs.Name.{shown_byte}
use Rattle.shown.proofs.name.write_bytes.Given as goal

-- The bytes so far were written.
abbrev pub invariant-loop-byte : goal.invariant-loop-byte
invariant-loop-byte g l =
    IsPlainFormatter l.fn.f
    → HasWritten g.W.Write.write_str_gives l.fn.f (flat_map shown_byte (take l.byte-index l.bytes)) l.f
