use Rattle.std.proofs.Common.{◌≡◌, ◌++◌, map}
use Rattle.std.specs.Vec.Iter.{into_iter_items}
use Rattle.audit_text.specs.private.PartViews.{part_of}
use Rattle.audit_text.proofs.parts.part.joined.Given as goal

-- The parts so far and those to come are all.
abbrev pub invariant-loop-part : goal.invariant-loop-part
invariant-loop-part l = map part_of l.parts.items ++ map part_of (into_iter_items l.part-iterator)
    ≡ map part_of l.initial.parts.items ++ map part_of (into_iter_items l.initial.part-iterator)
