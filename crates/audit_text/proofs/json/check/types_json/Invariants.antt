use Rattle.std.proofs.Common.{map, take}
use Rattle.audit_text.specs.json.Check.{counts_json}
use Rattle.audit_text.specs.private.JsonValues.{AreValuesOf}
use Rattle.audit_text.proofs.json.check.types_json.Given as goal

-- The values are the types so far.
abbrev pub invariant-loop-counts : goal.invariant-loop-counts
invariant-loop-counts l = AreValuesOf (map counts_json (take l.counts-index l.types)) l.checked
