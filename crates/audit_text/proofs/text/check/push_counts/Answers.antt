use Rattle.std.proofs.Common.{append_assoc}
use Rattle.audit_text.specs.text.Check.{counts_line}
use Rattle.audit_text.proofs.text.check.push_counts.Goals as goal

pub returns : goal.returns
unfolding counts_line
returns g c =
    simp (
      c.in_ok-write-2.ensures.bytes,
      c.in_ok-push_forms.ensures,
      c.in_ok-write.ensures.bytes,
      c.in_ok-push_type.ensures,
      append_assoc,
    ) at c.push_uncovered.ensures
