use Rattle.std.proofs.Common.{◌∙◌, ap, rules, tests}
use Rattle.std.specs.Prelude.{Result, is_err}
use Rattle.std.specs.List.{list_any}
use Rattle.std.proofs.lemmas.Iterator.{YieldsList-from_slice}
use Rattle.std.proofs.lemmas.Iterator.Search.{any_from_yields_List}
use Rattle.pcr_replay.specs.Views.{outcome_of}
use Rattle.pcr_replay.specs.declared.fault.Undetermined.{Undetermined}
use Rattle.pcr_replay.specs.declared.value.PcrValue.{PcrValue}
use Rattle.pcr_replay.proofs.Viewed.{any_view}
use Rattle.pcr_replay.proofs.bank_pcrs.BankPcrs.has_undetermined.Goals as goal

pub returns : goal.returns
returns c =
    any_from_yields_List (λ (outcome : Result PcrValue Undetermined). is_err (outcome_of outcome)) _ _ c.any.result c.any.ensures.ran
    (YieldsList-from_slice c.outcomes.result.now c.iter.ensures.rest) (λ x b q k. search (rules, tests))
    ∙ any_view is_err outcome_of c.outcomes.result.now ∙ ap (list_any is_err) c.outcomes.ensures.outcomes
