use Rattle.std.proofs.Common.{◌≡◌, ◌++◌, map}
use Rattle.serde_json.specs.View.{view}
use Rattle.tpm_quote.specs.Views.{pcrs_left}
use Rattle.audit_text.specs.json.Coverage.{pcr_number}
use Rattle.audit_text.specs.json.Json.{values_of}
use Rattle.audit_text.proofs.json.quote.pcrs_json.Given as goal

-- The values so far and those of the PCRs that are left are all.
abbrev pub invariant-loop-pcr : goal.invariant-loop-pcr
invariant-loop-pcr l =
    map view l.values.items ++ values_of (map pcr_number (pcrs_left l.pcr-iterator))
    ≡ values_of (map pcr_number (pcrs_left l.initial.pcr-iterator))
