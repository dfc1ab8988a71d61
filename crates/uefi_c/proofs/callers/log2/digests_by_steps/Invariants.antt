use Rattle.std.proofs.Common.{◌≡◌, ◌-◌, List, length, flat_map}
use Rattle.std.specs.List.{AllByRecursion}
use Rattle.uefi_tcg.specs.v2.Event.{Digest, IsDigest}
use Rattle.uefi_tcg.specs.v2.Digests.{digest_bytes}
use Rattle.uefi_tcg.specs.v2.Reading.{rows_in}
use Rattle.uefi_c.proofs.DigestSteps.{Left}
use Rattle.uefi_c.proofs.callers.log2.digests_by_steps.Given as goal

abbrev pub invariant-loop-digest : goal.invariant-loop-digest
invariant-loop-digest g l =
    (all : List Digest) → AllByRecursion (IsDigest (rows_in l.rows)) all → l.digests ≡ flat_map digest_bytes all
    → Left (rows_in l.rows) all l.digests l.offset l.views.items

abbrev pub decreases-loop-digest : goal.decreases-loop-digest
decreases-loop-digest g l = length l.digests - l.offset
