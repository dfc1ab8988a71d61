-- The digits so far are read.
use Rattle.std.proofs.Common.{take}
use Rattle.uefi_path_text.proofs.arguments.Numerals.{HasRead}
use Rattle.uefi_path_text.proofs.parse.number.read_digits.Given as goal

abbrev pub invariant-loop-offset : goal.invariant-loop-offset
invariant-loop-offset l = HasRead l.radix l.most l.number (take l.offset l.text)
