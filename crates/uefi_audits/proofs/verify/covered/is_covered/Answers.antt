use Rattle.std.proofs.Common.{rules, tests}
use Rattle.std.specs.Prelude.{◌==◌, ◌&&◌}
use Rattle.std.proofs.lemmas.Iterator.Consumers.{YieldsList-from_first}
use Rattle.std.proofs.lemmas.Iterator.Search.{any_from_yields_List}
use Rattle.pcr_replay.specs.Banks.{algorithm_of}
use Rattle.tpm_quote.specs.PcrSelection.{PcrSelection}
use Rattle.tpm_quote.specs.Views.{quote_of, selection_of, selections_left}
use Rattle.uefi_audits.specs.verify.Covered.{is_selected_by}
use Rattle.uefi_audits.proofs.verify.covered.is_covered.Goals as goal

pub returns : goal.returns
returns c =
    any_from_yields_List
    (λ (selection : PcrSelection). (selection.algorithm == algorithm_of c.args.bank) && is_selected_by selection c.args.pcr)
    c.any.new.self _ c.any.result c.any.ensures.ran
    (YieldsList-from_first selection_of selections_left (quote_of c.args.quote.now).pcr_selections c.pcr_selections.ensures.selections)
    (λ x b q k. search (rules, tests))
