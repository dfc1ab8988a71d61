use Rattle.std.proofs.Common.{map, take}
use Rattle.uefi_audits.specs.private.Counting.{finding_of}
use Rattle.uefi_audits.proofs.Counting.{CountsSoFar}
use Rattle.uefi_audits.proofs.check.counts.counts_of.Given as goal

-- The counts are those of the events so far.
abbrev pub invariant-loop-index : goal.invariant-loop-index
invariant-loop-index g l = CountsSoFar l.types (map finding_of (take l.index l.all))
