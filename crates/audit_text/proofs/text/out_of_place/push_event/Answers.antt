use Rattle.std.proofs.Common.{append_assoc}
use Rattle.audit_text.specs.text.OutOfPlace.{misplaced_line}
use Rattle.audit_text.proofs.text.out_of_place.push_event.Goals as goal

pub returns : goal.returns
unfolding misplaced_line
returns g c =
    simp (
      c.in_ok-push_type.ensures,
      c.in_ok-write.ensures.bytes,
      c.event_type.ensures,
      c.pcr_index.ensures,
      c.rule_name-rule.ensures,
      append_assoc,
    ) at c.writeln.ensures.bytes
