use Rattle.std.proofs.Common.{◌≡◌, ◌++◌, map}
use Rattle.serde_json.specs.View.{view}
use Rattle.uefi_tcg.specs.LogViews.{digests_left}
use Rattle.audit_text.specs.json.Event.{digest_json}
use Rattle.audit_text.specs.json.Json.{values_of}
use Rattle.audit_text.proofs.json.digests.digests_json.Given as goal

-- The values so far and those of the digests to come are those of all.
abbrev pub invariant-loop-algorithm : goal.invariant-loop-algorithm
invariant-loop-algorithm l = map view l.values.items ++ values_of (map digest_json (digests_left l.algorithm-iterator))
    ≡ values_of (map digest_json (digests_left l.initial.algorithm-iterator))
