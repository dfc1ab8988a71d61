-- After the first quote, only characters of a serial number so far.
use Rattle.std.proofs.Common.{◌≡◌, true, take, drop}
use Rattle.std.specs.List.{list_all}
use Rattle.uefi_path_text.specs.text.SerialNumber.{is_serial_character}
use Rattle.uefi_path_text.proofs.parse.argument.read_quoted.Given as goal

abbrev pub invariant-loop-offset : goal.invariant-loop-offset
invariant-loop-offset l = list_all is_serial_character (take l.offset (drop 1 l.text)) ≡ true
