use Rattle.std.proofs.Common.{ℕ, rules, tests}
use Rattle.std.specs.Prelude.{◌==◌}
use Rattle.std.proofs.lemmas.Iterator.Consumers.{YieldsList-from_first}
use Rattle.std.proofs.lemmas.Iterator.Search.{any_from_yields_List}
use Rattle.tpm_quote.specs.PcrSelection.{selected_pcrs}
use Rattle.tpm_quote.specs.Views.{pcr_of, pcrs_left, selection_of}
use Rattle.uefi_audits.proofs.verify.covered.is_selected_by.Goals as goal

pub returns : goal.returns
returns c =
    any_from_yields_List (λ (it : ℕ). it == c.args.pcr) c.any.new.self _ c.any.result c.any.ensures.ran
    (YieldsList-from_first pcr_of pcrs_left (selected_pcrs (selection_of c.args.selection.now)) c.pcrs.ensures.pcrs)
    (λ x b q k. search (rules, tests))
