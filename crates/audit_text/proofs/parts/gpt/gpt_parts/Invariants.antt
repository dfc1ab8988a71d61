use Rattle.std.proofs.Common.{◌≡◌, ◌++◌, map}
use Rattle.tcg_event.specs.GptViews.{entries_left}
use Rattle.audit_text.specs.parts.Contents.{partition_parts}
use Rattle.audit_text.specs.parts.Part.{object}
use Rattle.audit_text.specs.private.PartViews.{value_of}
use Rattle.audit_text.proofs.parts.gpt.gpt_parts.Given as goal

-- The values so far and those of the partitions to come are those of all.
abbrev pub invariant-loop-entry : goal.invariant-loop-entry
invariant-loop-entry l = map value_of l.partitions.items ++ map (λ it. object (partition_parts it)) (entries_left l.entry-iterator)
    ≡ map (λ it. object (partition_parts it)) (entries_left l.initial.entry-iterator)
