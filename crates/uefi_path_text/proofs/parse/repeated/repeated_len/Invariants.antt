use Rattle.std.proofs.Common.{◌≡◌, ◌≤◌, ◌+◌, length, true}
use Rattle.std.specs.Prelude.{is_some}
use Rattle.uefi_path_text.specs.parse.Arguments.{joined_values}
use Rattle.uefi_path_text.specs.private.FromText.{rest_length}
use Rattle.uefi_path_text.specs.private.Repeated.{read_repeated, repeated_of}
use Rattle.uefi_path_text.proofs.parse.repeated.repeated_len.Given as goal

-- The values so far and those of the texts that are left are all.
abbrev pub invariant-loop-rest : goal.invariant-loop-rest
invariant-loop-rest l =
    (is_some (read_repeated l.kind l.rest) ≡ true)
    × (length (joined_values (repeated_of l.kind l.texts)) ≡ l.size + length (joined_values (repeated_of l.kind l.rest)))
    × (l.size ≤ 0xfffb)

abbrev pub decreases-loop-rest : goal.decreases-loop-rest
decreases-loop-rest l = rest_length l.rest
