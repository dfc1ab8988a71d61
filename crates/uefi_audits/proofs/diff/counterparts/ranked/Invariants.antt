use Rattle.std.proofs.Common.{◌≡◌, map, take}
use Rattle.uefi_audits.specs.private.diff.Keys.{key_by}
use Rattle.uefi_audits.specs.private.diff.Ranks.{event_of, numbered_at, ranked_in}
use Rattle.uefi_audits.proofs.diff.Counts.{AreCounts}
use Rattle.uefi_audits.proofs.diff.counterparts.ranked.Given as goal

-- The counts and the ranks are those of the events so far.
abbrev pub invariant-loop-found : goal.invariant-loop-found
invariant-loop-found l = record {
  counts : AreCounts (key_by l.by) l.counts (map numbered_at (take l.found-index l.events));
  ranks : map event_of l.all.items ≡ ranked_in (key_by l.by) (map numbered_at (take l.found-index l.events));
}
