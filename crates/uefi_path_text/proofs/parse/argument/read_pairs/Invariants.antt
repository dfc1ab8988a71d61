-- So far only hex digits, and few enough.
use Rattle.std.proofs.Common.{◌≡◌, ◌≤◌, ◌*◌, true, take}
use Rattle.std.specs.List.{list_all}
use Rattle.uefi_path_text.specs.parse.Values.{is_hex_digit}
use Rattle.uefi_path_text.proofs.parse.argument.read_pairs.Given as goal

abbrev pub invariant-loop-offset : goal.invariant-loop-offset
invariant-loop-offset l = (list_all is_hex_digit (take l.offset l.text) ≡ true) × (l.offset ≤ 2 * l.most)
