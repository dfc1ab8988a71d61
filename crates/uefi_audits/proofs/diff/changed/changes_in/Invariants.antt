use Rattle.std.proofs.Common.{◌≡◌, map, take}
use Rattle.uefi_audits.specs.diff.Differences.{changes_in}
use Rattle.uefi_audits.specs.private.diff.Ranks.{pair_of, paired_of}
use Rattle.uefi_audits.proofs.diff.changed.changes_in.Given as goal

-- They are those of the events so far.
abbrev pub invariant-loop-paired : goal.invariant-loop-paired
invariant-loop-paired l = map pair_of l.found.items ≡ changes_in (map paired_of (take l.paired-index l.all))
