use Rattle.std.proofs.Common.{map, take}
use Rattle.audit_text.specs.json.Algorithm.{algorithm_json}
use Rattle.uefi_audits.specs.diff.Views.{numbers_of}
use Rattle.audit_text.specs.private.JsonValues.{AreValuesOf}
use Rattle.audit_text.proofs.json.diff.each_algorithm.Given as goal

-- The values are the algorithms so far.
abbrev pub invariant-loop-algorithm : goal.invariant-loop-algorithm
invariant-loop-algorithm l =
    AreValuesOf (map algorithm_json (numbers_of (take l.algorithm-index l.algorithms))) l.values
