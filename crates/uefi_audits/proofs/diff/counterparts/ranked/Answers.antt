use Rattle.std.proofs.Common.{rules}
use Rattle.uefi_audits.specs.private.diff.Keys.{key_by}
use Rattle.uefi_audits.proofs.diff.Counts.{count_more, rank_more}
use Rattle.uefi_audits.proofs.diff.counterparts.ranked.Goals as goal

pub loop-found-preserved : goal.loop-found-preserved
loop-found-preserved c = record {
  counts = count_more (key_by c.args.by) c.args.events.now c.loop-found.found-index c.found-item.result
      c.loop-found.counts c.insert.new.self c.new-key.result c.unwrap_or-rank.result c.loop-found-test.true
      c.found-item.is c.new-key.ensures (search rules) c.in_ok-insert.ensures.updates.0 c.loop-found.invariant.counts;
  ranks = rank_more (key_by c.args.by) c.args.events.now c.loop-found.found-index c.found-item.result
      c.loop-found.counts c.new-key.result c.unwrap_or-rank.result c.loop-found.all.items c.push.new.self.items
      c.loop-found-test.true c.found-item.is c.new-key.ensures (search rules) c.loop-found.invariant.counts
      c.loop-found.invariant.ranks c.in_ok-push.ensures.items;
}
