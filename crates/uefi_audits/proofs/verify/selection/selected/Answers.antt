use Rattle.std.proofs.Common.{[], ◌∷◌, ◌++◌, refl}
use Rattle.uefi_audits.proofs.verify.Selections.{all_items, at_first, none_named, one_more, wrong_item, wrong_last}
use Rattle.uefi_audits.proofs.verify.selection.selected.Goals as goal

pub loop-item-init : goal.loop-item-init
loop-item-init c = ([], at_first c.args.items.now, none_named 24)

pub returns-in_err-range : goal.returns-in_err-range
returns-in_err-range c =
    let inv = c.loop-item.invariant in
    rw c.from_residual.ensures (wrong_item c.args.items.now inv.0 c.loop-item.rest.now c.in-Some.item.now c.in-Some.after.now
    inv.1 (record { parts = c.in-Some.ensures.1; first = c.in-Some.ensures.0 }) c.in_err-range.ensures)

pub loop-item-preserved : goal.loop-item-preserved
loop-item-preserved c =
    let inv = c.loop-item.invariant in
    let range = c.in_ok-range.range in (
      inv.0 ++ range ∷ [],
      one_more c.args.items.now inv.0 c.loop-item.rest.now c.in-Some.item.now c.in-Some.after.now range inv.1
          (record { parts = c.in-Some.ensures.1; first = c.in-Some.ensures.0 }) c.in_ok-range.ensures,
      c.select.ensures inv.0 inv.2,
    )

pub returns-in_err-range-2 : goal.returns-in_err-range-2
returns-in_err-range-2 c =
    let inv = c.loop-item.invariant in
    rw c.from_residual-in_err-range-2.ensures (wrong_last c.args.items.now inv.0 c.loop-item.rest.now inv.1
    c.in_default.ensures c.in_err-range-2.ensures)

pub returns : goal.returns
returns c =
    let inv = c.loop-item.invariant in
    let range = c.in_ok-range-2.range in (
      refl,
      (
        inv.0 ++ range ∷ [],
        all_items c.args.items.now inv.0 c.loop-item.rest.now range inv.1 c.in_default.ensures c.in_ok-range-2.ensures,
        c.select-2.ensures inv.0 inv.2,
      ),
    )
