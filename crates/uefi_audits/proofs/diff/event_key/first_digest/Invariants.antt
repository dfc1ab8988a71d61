use Rattle.std.proofs.Common.{◌≡◌, length}
use Rattle.uefi_tcg.specs.LogViews.{digests_left, event_of}
use Rattle.pcr_replay.specs.Replay.{digests_by}
use Rattle.uefi_audits.proofs.diff.event_key.first_digest.Given as goal

-- Those of the algorithm among the digests to come are those of all.
abbrev pub invariant-loop-id : goal.invariant-loop-id
invariant-loop-id l =
    digests_by l.algorithm.0 (digests_left l.digests) ≡ digests_by l.algorithm.0 (event_of l.event).digests

abbrev pub decreases-loop-id : goal.decreases-loop-id
decreases-loop-id l = length (digests_left l.digests)
