use Rattle.std.proofs.lemmas.List.{take_all}
use Rattle.std.proofs.Common.{◌≡◌, ◌==◌, ◌∙◌, ap, map, not}
use Rattle.std.specs.List.{filter, list_any}
use Rattle.serde_json.specs.Data.{array}
use Rattle.serde_json.specs.View.{items_of}
use Rattle.serde_json.proofs.Views.{view-Array}
use Rattle.pcr_replay.specs.Banks.{algorithm_of}
use Rattle.pcr_replay.specs.BankReplays.{BankOutcomes, bank_outcomes_of}
use Rattle.audit_text.specs.json.Json.{values_of}
use Rattle.audit_text.specs.json.Replay.{algorithm_json, is_replayed, not_replayed_json}
use Rattle.audit_text.proofs.Viewed.{any_view}
use Rattle.audit_text.proofs.json.not_replayed.not_replayed_json.Goals as goal

pub returns : goal.returns
unfolding not_replayed_json
returns c =
    let algorithms = c.args.algorithms.now in
    let banks = c.args.banks.now in
    let same : filter (λ n. not (list_any (λ found. algorithm_of found.bank == n) banks)) algorithms
    ≡ filter (λ n. not (is_replayed (map bank_outcomes_of banks) n)) algorithms =
    λ i. filter (λ n. not (any_view (λ (it : BankOutcomes). algorithm_of it.bank == n) bank_outcomes_of banks i)) algorithms in
    view-Array c.loop-algorithm.values
    ∙ ap (λ it. array (items_of it)) (c.loop-algorithm.invariant
    ∙ ap (λ them. values_of (map algorithm_json them))
    (take_all c.loop-algorithm.algorithm-index _ c.loop-algorithm-test.false ∙ c.deref-algorithm-items.ensures.value ∙ c.in_ok-others.ensures ∙ same))
