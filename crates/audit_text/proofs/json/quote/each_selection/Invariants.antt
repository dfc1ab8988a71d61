use Rattle.std.proofs.Common.{◌≡◌, ◌++◌, map}
use Rattle.serde_json.specs.View.{view}
use Rattle.tpm_quote.specs.Views.{selections_left}
use Rattle.audit_text.specs.json.Quote.{selection_json}
use Rattle.audit_text.specs.json.Json.{values_of}
use Rattle.audit_text.proofs.json.quote.each_selection.Given as goal

-- The values so far and those of the selections that are left are all.
abbrev pub invariant-loop-selection : goal.invariant-loop-selection
invariant-loop-selection l =
    map view l.values.items ++ values_of (map selection_json (selections_left l.selection-iterator))
    ≡ values_of (map selection_json (selections_left l.initial.selection-iterator))
