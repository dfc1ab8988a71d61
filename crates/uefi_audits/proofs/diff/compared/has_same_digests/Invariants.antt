use Rattle.std.proofs.Common.{◌≡◌, ◌↔◌, length}
use Rattle.std.specs.Slice.Iter.{iter_rest}
use Rattle.pcr_replay.specs.Replay.{digests_by}
use Rattle.uefi_audits.specs.private.diff.Digests.{digests_of}
use Rattle.uefi_audits.proofs.diff.compared.has_same_digests.Given as goal

-- The digests to come are the same exactly if all are.
abbrev pub invariant-loop-digest : goal.invariant-loop-digest
invariant-loop-digest l =
    (digests_by l.algorithm.0 (digests_of (iter_rest l.ones_left)) ≡ digests_by l.algorithm.0 (digests_of (iter_rest l.others_left)))
    ↔ (digests_by l.algorithm.0 (digests_of l.ones) ≡ digests_by l.algorithm.0 (digests_of l.others))

abbrev pub decreases-loop-digest : goal.decreases-loop-digest
decreases-loop-digest l = length (digests_by l.algorithm.0 (digests_of (iter_rest l.ones_left)))
