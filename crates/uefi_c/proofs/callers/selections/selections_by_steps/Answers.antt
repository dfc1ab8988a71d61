use Rattle.std.proofs.Common.{◌∙◌, ap, arith, sym}
use Rattle.uefi_c.specs.EventData.{given}
use Rattle.uefi_c.specs.Quote.{selection_seen}
use Rattle.uefi_c.proofs.SelectionSteps.{all_seen, given_none, one_more}
use Rattle.uefi_c.proofs.callers.selections.selections_by_steps.Goals as goal

pub loop-selection-smaller : goal.loop-selection-smaller
loop-selection-smaller g c = omega (
  arith,
  c.uefi_quote_next_selection.ensures.few c.loop-selection-test.true,
  c.uefi_quote_next_selection.ensures.moves c.loop-selection-test.true,
)

pub loop-selection-preserved : goal.loop-selection-preserved
loop-selection-preserved g c = λ quote are. rw (c.uefi_quote_next_selection.ensures.moves c.loop-selection-test.true) (
    one_more quote.pcr_selections c.loop-selection.cursor c.loop-selection.views.items c.push.new.self.items
    c.uefi_quote_next_selection.new.out c.in_ok-push.ensures.items
    (ap (λ status. given status (selection_seen c.uefi_quote_next_selection.new.out)) (sym c.loop-selection-test.true)
    ∙ c.uefi_quote_next_selection.ensures.selection quote are)
    (c.loop-selection.invariant quote are)
    )

pub returns : goal.returns
returns g c = λ quote are.
    all_seen quote.pcr_selections c.loop-selection.cursor c.loop-selection.views.items
    (sym (given_none c.uefi_quote_next_selection.result (selection_seen c.uefi_quote_next_selection.new.out) c.loop-selection-test.false)
    ∙ c.uefi_quote_next_selection.ensures.selection quote are) (c.loop-selection.invariant quote are)
