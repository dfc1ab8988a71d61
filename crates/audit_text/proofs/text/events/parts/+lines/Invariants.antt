use Rattle.std.proofs.Common.{◌≡◌, ◌++◌, map, string_bytes, take}
use Rattle.std.specs.Prelude.{flat_map}
use Rattle.audit_text.specs.parts.Part.{lines_of}
use Rattle.audit_text.specs.private.PartViews.{part_of, value_of}
use Rattle.audit_text.proofs.text.events.parts.+lines.Given as goal

-- The lines of the parts, and of the values, so far.
abbrev pub invariant-push_parts-loop-part : goal.invariant-push_parts-loop-part
invariant-push_parts-loop-part l =
    string_bytes l.text ≡ string_bytes l.initial.text ++ lines_of (map part_of (take l.part-index l.part-items))

abbrev pub invariant-push_value-loop-value : goal.invariant-push_value-loop-value
invariant-push_value-loop-value l =
    string_bytes l.text
    ≡ string_bytes l.initial.text ++ flat_map (λ value. value.shown) (map value_of (take l.value-index l.value-items))
