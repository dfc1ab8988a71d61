use Rattle.std.proofs.Common.{map, take}
use Rattle.std.specs.List.{flat_map}
use Rattle.pcr_replay.specs.BankReplays.{bank_outcomes_of}
use Rattle.audit_text.specs.json.Verdict.{if_disagreeing}
use Rattle.audit_text.specs.private.JsonValues.{AreValuesOf}
use Rattle.audit_text.proofs.json.verdict.each_disagreeing.Given as goal

-- The values are the PCRs so far that don't agree.
abbrev pub invariant-loop-pcr : goal.invariant-loop-pcr
invariant-loop-pcr l =
    AreValuesOf (flat_map (if_disagreeing (map bank_outcomes_of l.replays)) (take l.pcr-index l.held)) l.values
