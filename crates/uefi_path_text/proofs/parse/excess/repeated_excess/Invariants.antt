use Rattle.std.proofs.Common.{◌≤◌, ◌+◌}
use Rattle.uefi_path_text.specs.private.FromText.{rest_length}
use Rattle.uefi_path_text.proofs.parse.excess.repeated_excess.Given as goal

abbrev pub invariant-loop-rest : goal.invariant-loop-rest
invariant-loop-rest l = rest_length l.rest ≤ l.end + 1

abbrev pub decreases-loop-rest : goal.decreases-loop-rest
decreases-loop-rest l = rest_length l.rest
