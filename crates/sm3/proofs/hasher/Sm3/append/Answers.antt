use Rattle.std.proofs.Common.{rules}
use Rattle.sm3.proofs.Absorbing.{Holds_more}
use Rattle.sm3.proofs.hasher.Sm3.append.Goals as goal

pub parts-preserved : goal.parts-preserved
parts-preserved c = λ m held.
    Holds_more c.parts.self _ m c.args.bytes.now c.parts.rest.now c.split_at.result.0.now c.split_at.result.1.now
    (c.parts.invariant m held) (search rules) c.absorb.ensures
