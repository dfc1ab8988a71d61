use Rattle.std.proofs.Common.{◌∙◌, ◌+◌, ◌^◌, ap, arith, sym}
use Rattle.std.proofs.lemmas.Nat.{one_shl}
use Rattle.tpm_quote.specs.PcrSelection.{is_selected}
use Rattle.tpm_quote.specs.Views.{selection_of}
use Rattle.uefi_c.proofs.QuoteSets.{none_below, one_fails, one_passes, room_for, same_test}
use Rattle.uefi_c.proofs.quote.set_of.Goals as goal
use Rattle.uefi_c.proofs.quote.set_of.Goals.{then-contains, else-contains}

pub loop-pcr-init : goal.loop-pcr-init
loop-pcr-init c = none_below (is_selected (selection_of c.args.selection.now))

pub overflow_add-set : goal.overflow_add-set
overflow_add-set c = omega (
  arith,
  one_shl c.loop-pcr.pcr 32 (omega (arith, c.loop-pcr-test.true)),
  c.loop-pcr.invariant,
  room_for (is_selected (selection_of c.args.selection.now)) c.loop-pcr.pcr c.loop-pcr-test.true,
)

pub loop-pcr-preserved : goal.loop-pcr-preserved
loop-pcr-preserved c =
    let test = is_selected (selection_of c.args.selection.now) in
    let n = c.loop-pcr.pcr in
    let same = same_test c.contains.result (test n) c.contains.ensures in
    elim c.if-contains.branch [
      | then-contains w ↦ w.set-is ∙ ap (λ more. c.loop-pcr.set + more) (one_shl n 32 (omega (arith, c.loop-pcr-test.true)))
          ∙ ap (λ set. set + 2 ^ n) c.loop-pcr.invariant ∙ sym (one_passes test n (sym same ∙ w.if-contains.true))
      | else-contains w ↦ w.set-is ∙ c.loop-pcr.invariant ∙ sym (one_fails test n (sym same ∙ w.if-contains.false))
    ]
