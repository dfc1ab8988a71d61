use Rattle.uefi_audits.proofs.verify.Selections.{no_bank, no_items_if, of_all_if}
use Rattle.uefi_audits.proofs.verify.selection.selection_in.Goals as goal

pub returns-in_default-clause-none : goal.returns-in_default-clause-none
returns-in_default-clause-none c = of_all_if c.args.text.now c.selected.result _ c.in_default.ensures c.selected.ensures

pub returns-in_err-bank-clause-none : goal.returns-in_err-bank-clause-none
returns-in_err-bank-clause-none c =
    rw c.from_residual.ensures (no_bank c.args.text.now c.in-Some.name.now c.in-Some.items.now
    (record { parts = c.in-Some.ensures.1; first = c.in-Some.ensures.0 }) c.in_err-bank.ensures)

pub returns-clause-none : goal.returns-clause-none
returns-clause-none c =
    no_items_if c.args.text.now c.in-Some.name.now c.in-Some.items.now c.selected-2.result _
    (record { parts = c.in-Some.ensures.1; first = c.in-Some.ensures.0 }) c.selected-2.ensures
