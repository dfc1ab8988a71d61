use Rattle.std.proofs.Common.{◌≡◌, map, take}
use Rattle.uefi_audits.specs.diff.Differences.{alone_in}
use Rattle.uefi_audits.specs.private.diff.Ranks.{numbered_at, paired_of}
use Rattle.uefi_audits.proofs.diff.counterparts.alone.Given as goal

-- They are those of the events so far.
abbrev pub invariant-loop-paired : goal.invariant-loop-paired
invariant-loop-paired l = map numbered_at l.found.items ≡ alone_in (map paired_of (take l.paired-index l.all))
