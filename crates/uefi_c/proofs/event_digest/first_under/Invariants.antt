use Rattle.std.proofs.Common.{length}
use Rattle.uefi_tcg.specs.v2.Views.{table_of}
use Rattle.uefi_c.specs.EventDigest.{BeginWithOthers}
use Rattle.uefi_c.proofs.event_digest.first_under.Given as goal

abbrev pub invariant-loop-id : goal.invariant-loop-id
invariant-loop-id l = BeginWithOthers l.algorithm (table_of l.sizes) l.digests l.rest

abbrev pub decreases-loop-id : goal.decreases-loop-id
decreases-loop-id l = length l.rest
