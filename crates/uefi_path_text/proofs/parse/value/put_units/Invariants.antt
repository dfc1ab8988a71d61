-- Two bytes are written for each character so far.
use Rattle.std.proofs.Common.{◌≡◌, ◌*◌, take}
use Rattle.uefi_path_text.specs.parse.Values.{character_units}
use Rattle.uefi_path_text.proofs.parse.value.put_units.Given as goal

abbrev pub invariant-loop-i : goal.invariant-loop-i
invariant-loop-i l = take (2 * l.i) l.bytes ≡ character_units (take l.i l.text)
