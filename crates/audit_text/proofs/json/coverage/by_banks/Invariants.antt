use Rattle.std.proofs.Common.{take}
use Rattle.std.specs.Prelude.{flat_map}
use Rattle.pcr_replay.specs.Banks.{all_banks}
use Rattle.audit_text.specs.json.Coverage.{of_bank}
use Rattle.audit_text.specs.private.JsonValues.{AreValuesOf}
use Rattle.audit_text.proofs.json.coverage.by_banks.Given as goal

-- The values are those of the banks so far.
abbrev pub invariant-loop-bank : goal.invariant-loop-bank
invariant-loop-bank l = AreValuesOf (flat_map (of_bank l.pcrs) (take l.bank-index all_banks)) l.values
