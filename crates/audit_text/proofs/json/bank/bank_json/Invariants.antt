use Rattle.std.proofs.Common.{map, take}
use Rattle.pcr_replay.specs.Views.{outcome_of}
use Rattle.audit_text.specs.json.Replay.{outcome_json}
use Rattle.audit_text.specs.private.JsonValues.{AreValuesOf}
use Rattle.audit_text.proofs.json.bank.bank_json.Given as goal

-- The values are what the PCRs so far hold.
abbrev pub invariant-loop-outcome : goal.invariant-loop-outcome
invariant-loop-outcome l =
    AreValuesOf (map outcome_json (map outcome_of (take l.outcome-index l.outcome-items))) l.pcrs
