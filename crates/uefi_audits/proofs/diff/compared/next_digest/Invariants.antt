use Rattle.std.proofs.Common.{◌≡◌, length}
use Rattle.std.specs.Slice.Iter.{iter_rest}
use Rattle.pcr_replay.specs.Replay.{digests_by}
use Rattle.uefi_audits.specs.private.diff.Digests.{digests_of}
use Rattle.uefi_audits.proofs.diff.compared.next_digest.Given as goal

-- Those of the algorithm among the digests to come are those of all.
abbrev pub invariant-loop-id : goal.invariant-loop-id
invariant-loop-id l =
    digests_by l.algorithm.0 (digests_of (iter_rest l.digests))
    ≡ digests_by l.algorithm.0 (digests_of (iter_rest l.initial.digests))

abbrev pub decreases-loop-id : goal.decreases-loop-id
decreases-loop-id l = length (iter_rest l.digests)
