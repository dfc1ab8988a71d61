use Rattle.std.proofs.Common.{rules}
use Rattle.uefi_c.proofs.PartsJoined.{next_fits, next_put}
use Rattle.uefi_c.proofs.nodes.typed.joined.Goals as goal

pub put-requires : goal.put-requires
put-requires g c =
    next_fits c.loop-part.part-index _ g.row.N _ _ _ (search rules) c.requires c.loop-part.invariant.0 c.loop-part.invariant.1

pub loop-part-preserved : goal.loop-part-preserved
loop-part-preserved g c =
    next_put c.loop-part.part-index _ g.row.N _ _ _ _ (search rules) c.requires c.loop-part.invariant.0
    c.loop-part.invariant.1 c.put.ensures
