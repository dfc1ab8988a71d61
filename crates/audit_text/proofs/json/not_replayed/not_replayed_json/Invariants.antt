use Rattle.std.proofs.Common.{map, take}
use Rattle.audit_text.specs.json.Replay.{algorithm_json}
use Rattle.audit_text.specs.private.JsonValues.{AreValuesOf}
use Rattle.audit_text.proofs.json.not_replayed.not_replayed_json.Given as goal

-- The values are the algorithms so far.
abbrev pub invariant-loop-algorithm : goal.invariant-loop-algorithm
invariant-loop-algorithm l = AreValuesOf (map algorithm_json (take l.algorithm-index l.algorithm-items)) l.values
