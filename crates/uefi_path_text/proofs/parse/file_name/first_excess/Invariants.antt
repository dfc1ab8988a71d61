use Rattle.std.proofs.Common.{◌≤◌}
use Rattle.uefi_path_text.proofs.parse.file_name.first_excess.Given as goal

-- The size so far isn't too long.
abbrev pub invariant-loop-offset : goal.invariant-loop-offset
invariant-loop-offset l = l.size ≤ 0xfffb
