-- The bytes are written for the offsets so far.
use Rattle.std.proofs.Common.{◌≡◌, take, map}
use Rattle.uefi_path_text.specs.parse.Values.{byte_at, offsets}
use Rattle.uefi_path_text.proofs.parse.value.put_digits.Given as goal

abbrev pub invariant-loop-i : goal.invariant-loop-i
invariant-loop-i l = take l.i l.bytes ≡ map (byte_at l.text) (take l.i (offsets l.fn.shape))
