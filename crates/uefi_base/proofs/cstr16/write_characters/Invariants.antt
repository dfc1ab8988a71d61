use Rattle.std.proofs.Common.{take, encode_utf8_all}
use Rattle.std.specs.Fmt.{HasWritten, IsPlainFormatter}
use Rattle.uefi_base.proofs.cstr16.write_characters.Given as goal

abbrev pub invariant-loop-unit : goal.invariant-loop-unit
invariant-loop-unit g l =
    IsPlainFormatter l.initial.f → HasWritten g.W.Write.write_str_gives l.initial.f
    (encode_utf8_all (take l.unit-index l.units)) l.f
