use Rattle.std.proofs.Common.{◌≡◌, ◌≤◌, ◌+◌}
use Rattle.std.specs.Prelude.{is_some}
use Rattle.uefi_path_text.specs.parse.Arguments.{repeated_values}
use Rattle.uefi_path_text.specs.private.FromText.{rest_parts, rest_length}
use Rattle.uefi_path_text.proofs.parse.check.check_repeated.Given as goal

-- The texts that are left are of the kind if all are.
abbrev pub invariant-loop-rest : goal.invariant-loop-rest
invariant-loop-rest l =
    (is_some (repeated_values l.kind (rest_parts 0x2c l.texts)) ≡ is_some (repeated_values l.kind (rest_parts 0x2c l.rest)))
    × (rest_length l.rest ≤ l.end + 1)

abbrev pub decreases-loop-rest : goal.decreases-loop-rest
decreases-loop-rest l = rest_length l.rest
