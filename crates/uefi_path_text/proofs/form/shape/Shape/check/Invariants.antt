-- What was before fits.
use Rattle.std.proofs.Common.{◌≡◌, ◌≤◌, true, take, length}
use Rattle.uefi_path_text.specs.parse.Values.{has_pattern, pattern}
use Rattle.uefi_path_text.proofs.form.shape.Shape.check.Given as goal

abbrev pub invariant-loop-offset : goal.invariant-loop-offset
invariant-loop-offset l =
    (l.offset ≤ length (pattern l.fn.self))
    × (has_pattern (take l.offset (pattern l.fn.self)) (take l.offset l.text) ≡ true)
