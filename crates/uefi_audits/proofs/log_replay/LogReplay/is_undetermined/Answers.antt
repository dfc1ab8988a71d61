use Rattle.std.proofs.Common.{◌∙◌, ◌||◌, ap, rules, tests}
use Rattle.std.specs.Prelude.{◌==◌, length}
use Rattle.std.specs.List.{list_any}
use Rattle.std.proofs.lemmas.Iterator.{YieldsList-from_slice}
use Rattle.std.proofs.lemmas.Iterator.Search.{any_from_yields_List}
use Rattle.pcr_replay.specs.BankReplays.{bank_outcomes_of, has_undetermined}
use Rattle.pcr_replay.specs.declared.bank_pcrs.BankPcrs.{BankPcrs}
use Rattle.uefi_audits.proofs.log_replay.LogReplay.is_undetermined.Goals as goal

pub returns-else-is_empty : goal.returns-else-is_empty
returns-else-is_empty c =
    let test = λ (bank : BankPcrs). has_undetermined (bank_outcomes_of bank) in
    any_from_yields_List test _ _ c.any.result c.any.ensures.ran
    (YieldsList-from_slice c.as_slice-banks.result.now c.iter.ensures.rest) (λ x b q k. search (rules, tests))
    ∙ ap (λ it. it || list_any test c.as_slice-banks.result.now) c.if-is_empty.ensures
    ∙ ap (λ it. (length it == 0) || list_any test it) c.as_slice-banks.ensures.value
