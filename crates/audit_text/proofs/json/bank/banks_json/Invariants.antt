use Rattle.std.proofs.Common.{map, take}
use Rattle.pcr_replay.specs.BankReplays.{bank_outcomes_of}
use Rattle.audit_text.specs.json.Replay.{bank_json}
use Rattle.audit_text.specs.private.JsonValues.{AreValuesOf}
use Rattle.audit_text.proofs.json.bank.banks_json.Given as goal

-- The values are the banks so far.
abbrev pub invariant-loop-bank : goal.invariant-loop-bank
invariant-loop-bank l = AreValuesOf (map bank_json (map bank_outcomes_of (take l.bank-index l.banks))) l.values
