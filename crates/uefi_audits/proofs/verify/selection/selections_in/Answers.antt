use Rattle.std.proofs.Common.{List, subst, sym}
use Rattle.uefi_audits.specs.declared.verify.selection.PcrSelection.{PcrSelection}
use Rattle.uefi_audits.specs.verify.Selection.{AreSelections}
use Rattle.uefi_audits.proofs.verify.SelectionLists.{Continues, all_read, at_first, one_more, wrong_last, wrong_part}
use Rattle.uefi_audits.proofs.verify.selection.selections_in.Goals as goal

pub loop-part-init : goal.loop-part-init
loop-part-init g c =
    subst (λ (read : List PcrSelection). Continues c.args.text.now read c.args.text.now) (sym c.new-selections.ensures.items)
    (at_first c.args.text.now)

pub returns-in_default-selection_in : goal.returns-in_default-selection_in
returns-in_default-selection_in g c =
    wrong_part c.args.text.now c.loop-part.selections.items c.loop-part.rest.now c.in-Some.part.now c.in-Some.after.now
    c.loop-part.invariant (record { parts = c.in-Some.ensures.1; first = c.in-Some.ensures.0 })
    (λ selection is. c.in_default-selection_in.ensures.none is.bank is.ranges is.is_selection)

pub loop-part-preserved : goal.loop-part-preserved
loop-part-preserved g c =
    subst (λ (read : List PcrSelection). Continues c.args.text.now read c.in-Some.after.now) (sym c.in_ok-push.ensures.items)
    (one_more c.args.text.now c.loop-part.selections.items c.loop-part.rest.now c.in-Some.part.now c.in-Some.after.now
    c.in-Some-selection_in.selection c.loop-part.invariant
    (record { parts = c.in-Some.ensures.1; first = c.in-Some.ensures.0 }) c.in-Some-selection_in.ensures.selection)

pub returns-in_default-selection_in-2 : goal.returns-in_default-selection_in-2
returns-in_default-selection_in-2 g c =
    wrong_last c.args.text.now c.loop-part.selections.items c.loop-part.rest.now c.loop-part.invariant c.in_default.ensures
    (λ selection is. c.in_default-selection_in-2.ensures.none is.bank is.ranges is.is_selection)

pub returns : goal.returns
returns g c =
    subst (λ (all : List PcrSelection). AreSelections c.args.text.now all) (sym c.in_ok-push-2.ensures.items)
    (all_read c.args.text.now c.loop-part.selections.items c.loop-part.rest.now c.in-Some-selection_in-2.selection
    c.loop-part.invariant c.in_default.ensures c.in-Some-selection_in-2.ensures.selection)
