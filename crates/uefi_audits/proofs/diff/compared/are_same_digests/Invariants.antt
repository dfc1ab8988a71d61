use Rattle.std.proofs.Common.{◌≡◌, map, take}
use Rattle.uefi_audits.specs.diff.Differences.{digests_in}
use Rattle.uefi_audits.specs.diff.Views.{numbers_of}
use Rattle.uefi_audits.specs.private.diff.Digests.{digests_of}
use Rattle.uefi_audits.proofs.diff.compared.are_same_digests.Given as goal

-- The digests of the algorithms so far are the same.
abbrev pub invariant-loop-algorithm : goal.invariant-loop-algorithm
invariant-loop-algorithm l =
    map (digests_in (digests_of l.ones)) (numbers_of (take l.algorithm-index l.algorithms))
    ≡ map (digests_in (digests_of l.others)) (numbers_of (take l.algorithm-index l.algorithms))
