use Rattle.std.proofs.Common.{◌≡◌, ◌++◌, drop, map}
use Rattle.serde_json.specs.View.{view}
use Rattle.pcr_replay.specs.Views.{outcomes_of}
use Rattle.uefi_audits.specs.Numbered.{numbered}
use Rattle.audit_text.specs.json.Json.{values_of}
use Rattle.audit_text.specs.json.Replay.{if_undetermined}
use Rattle.audit_text.proofs.json.bank.all_undetermined.Given as goal

-- The values so far and those of the PCRs to come are the values of all.
abbrev pub invariant-loop-pcr : goal.invariant-loop-pcr
invariant-loop-pcr l =
    map view l.values.items ++ numbered (λ n outcome. values_of (if_undetermined n outcome)) l.pcr (drop l.pcr (outcomes_of l.pcrs))
    ≡ numbered (λ n outcome. values_of (if_undetermined n outcome)) 0 (outcomes_of l.pcrs)
