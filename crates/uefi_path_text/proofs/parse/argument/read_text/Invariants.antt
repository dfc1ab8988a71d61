-- So far only characters of an argument, and few enough.
use Rattle.std.proofs.Common.{◌≡◌, ◌≤◌, true, take}
use Rattle.std.specs.List.{list_all}
use Rattle.uefi_path_text.specs.text.Arguments.{is_argument_character}
use Rattle.uefi_path_text.proofs.parse.argument.read_text.Given as goal

abbrev pub invariant-loop-offset : goal.invariant-loop-offset
invariant-loop-offset l = (list_all is_argument_character (take l.offset l.text) ≡ true) × (l.offset ≤ l.most)
