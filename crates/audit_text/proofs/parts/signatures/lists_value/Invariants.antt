use Rattle.std.proofs.Common.{◌≡◌, ◌++◌, map}
use Rattle.tcg_event.specs.SignatureViews.{lists_left}
use Rattle.audit_text.specs.parts.Contents.{list_parts}
use Rattle.audit_text.specs.parts.Part.{object}
use Rattle.audit_text.specs.private.PartViews.{value_of}
use Rattle.audit_text.proofs.parts.signatures.lists_value.Given as goal

-- The values so far and those of the lists to come are those of all.
abbrev pub invariant-loop-list : goal.invariant-loop-list
invariant-loop-list l = map value_of l.values.items ++ map (λ it. object (list_parts it)) (lists_left l.list-iterator)
    ≡ map (λ it. object (list_parts it)) (lists_left l.initial.list-iterator)
