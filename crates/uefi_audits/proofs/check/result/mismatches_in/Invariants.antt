use Rattle.std.proofs.Common.{◌≡◌, ◌++◌, drop, map}
use Rattle.uefi_audits.specs.CheckResult.{if_mismatch, mismatch_of, mismatches_in}
use Rattle.uefi_audits.specs.Numbered.{numbered}
use Rattle.uefi_audits.specs.private.Counting.{finding_of}
use Rattle.uefi_audits.proofs.check.result.mismatches_in.Given as goal

-- Those so far and those among the events to come are all.
abbrev pub invariant-loop-index : goal.invariant-loop-index
invariant-loop-index g l =
    map mismatch_of l.found.items ++ numbered if_mismatch l.index (drop l.index (map finding_of l.all))
    ≡ mismatches_in (map finding_of l.all)
