-- The bytes are written for the pairs so far.
use Rattle.std.proofs.Common.{◌≡◌, take}
use Rattle.uefi_path_text.specs.parse.Values.{pairs_bytes}
use Rattle.uefi_path_text.proofs.parse.value.put_pairs.Given as goal

abbrev pub invariant-loop-i : goal.invariant-loop-i
invariant-loop-i l = take l.i l.bytes ≡ take l.i (pairs_bytes l.text)
