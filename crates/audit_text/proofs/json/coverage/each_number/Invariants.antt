use Rattle.std.proofs.Common.{map, take}
use Rattle.audit_text.specs.json.Coverage.{pcr_number}
use Rattle.audit_text.specs.private.JsonValues.{AreValuesOf}
use Rattle.audit_text.proofs.json.coverage.each_number.Given as goal

-- The values are the numbers so far.
abbrev pub invariant-loop-pcr : goal.invariant-loop-pcr
invariant-loop-pcr l = AreValuesOf (map pcr_number (take l.pcr-index l.pcrs)) l.values
