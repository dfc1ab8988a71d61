use Rattle.std.proofs.Common.{◌≡◌, ◌≤◌, ◌+◌, length, true}
use Rattle.std.specs.Prelude.{is_some}
use Rattle.uefi_base.specs.Buffer.{put_at}
use Rattle.uefi_path_text.specs.parse.Arguments.{joined_values}
use Rattle.uefi_path_text.specs.private.FromText.{rest_length}
use Rattle.uefi_path_text.specs.private.Repeated.{read_repeated, repeated_of}
use Rattle.uefi_path_text.proofs.parse.repeated.put_repeated.Given as goal

-- With the values of the texts that are left, all are written.
abbrev pub invariant-loop-rest : goal.invariant-loop-rest
invariant-loop-rest l =
    (is_some (read_repeated l.kind l.rest) ≡ true)
    × (put_at l.end (joined_values (repeated_of l.kind l.rest)) l.buffer
    ≡ put_at l.offset (joined_values (repeated_of l.kind l.texts)) l.initial.buffer)
    × (l.end + length (joined_values (repeated_of l.kind l.rest)) ≤ length l.buffer)

abbrev pub decreases-loop-rest : goal.decreases-loop-rest
decreases-loop-rest l = rest_length l.rest
