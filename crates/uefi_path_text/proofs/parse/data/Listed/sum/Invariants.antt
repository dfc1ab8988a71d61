use Rattle.std.proofs.Common.{◌≡◌, ◌≤◌, ◌*◌, take, drop}
use Rattle.uefi_path_text.specs.parse.Arguments.{number_sum}
use Rattle.uefi_path_text.specs.private.Lists.{listed_of}
use Rattle.uefi_path_text.proofs.parse.data.Listed.sum.Given as goal

-- The sum of the numbers so far, which have two bytes each.
abbrev pub invariant-loop-i : goal.invariant-loop-i
invariant-loop-i l =
    (l.sum ≡ number_sum (take l.i (drop l.index (listed_of l.self)))) × (l.sum ≤ l.i * 65535)
