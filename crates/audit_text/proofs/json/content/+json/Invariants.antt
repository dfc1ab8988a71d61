use Rattle.std.proofs.Common.{◌≡◌, drop, map, take}
use Rattle.serde_json.specs.Data.{no_members}
use Rattle.serde_json.specs.View.{members_view}
use Rattle.audit_text.specs.json.Json.{with_members}
use Rattle.audit_text.specs.private.JsonValues.{AreValuesOf}
use Rattle.audit_text.specs.parts.Part.{members_of}
use Rattle.audit_text.specs.private.PartViews.{part_of, value_of}
use Rattle.audit_text.proofs.json.content.+json.Given as goal

-- The values are those so far.
abbrev pub invariant-value_json-loop-value : goal.invariant-value_json-loop-value
invariant-value_json-loop-value l = AreValuesOf (map (λ value. value.json) (map value_of (take l.value-index l.value-items))) l.items

-- The members, with those of the parts to come, are those of all.
abbrev pub invariant-members-loop-part : goal.invariant-members-loop-part
invariant-members-loop-part l =
    with_members (members_view l.members.entries) (members_of (map part_of (drop l.part-index l.part-items)))
    ≡ with_members no_members (members_of (map part_of l.part-items))
