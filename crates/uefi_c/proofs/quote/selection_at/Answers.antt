use Rattle.std.proofs.Common.{◌∙◌, ap}
use Rattle.std.specs.Prelude.{slice_get}
use Rattle.std.proofs.lemmas.Iterator.Consumers.{YieldsList-from_first, nth_from_yields_List}
use Rattle.tpm_quote.specs.Views.{quote_of, selection_of, selections_left}
use Rattle.uefi_c.proofs.QuoteRead.{none_read, one_read}
use Rattle.uefi_c.proofs.quote.selection_at.Goals as goal

pub returns-in_default-clause-selection : goal.returns-in_default-clause-selection
returns-in_default-clause-selection c = λ quote are.
    absurd (none_read c.args.message.now c.try_from.result c.in_default.field-0 c.try_from.ensures c.in_default.is (quote, are))

pub returns-clause-selection : goal.returns-clause-selection
returns-clause-selection c = λ quote are.
    nth_from_yields_List c.nth.result c.nth.new.self c.args.index c.nth.ensures.ran
    (YieldsList-from_first selection_of selections_left (quote_of c.in-Ok.quote).pcr_selections c.pcr_selections.ensures.selections)
    ∙ ap (λ it. slice_get it.pcr_selections c.args.index)
    (one_read c.args.message.now c.try_from.result c.in-Ok.quote c.try_from.ensures c.in-Ok.is quote are)
