use Rattle.std.proofs.Common.{◌∙◌, ℕ, Vec, ap, sym, arith}
use Rattle.uefi_base.specs.Views.{slice_units}
use Rattle.boot_listing.specs.Variables.{files_of, is_other}
use Rattle.boot_listing.specs.declared.variables.BootVariable.TheVariants.{BootOrder}
use Rattle.boot_listing.proofs.Numbers.{all_numbers, other_passed, other_pushed, units_or_none}
use Rattle.boot_listing.proofs.variables.BootVariables.numbers.Goals as goal
use Rattle.boot_listing.proofs.variables.BootVariables.numbers.Goals.{then-is_other+in_ok-push, else-is_other}

pub loop-index-preserved : goal.loop-index-preserved
loop-index-preserved g c files order finds marks =
    let start = c.in_ok-numbers.numbers.items in
    let now = c.loop-index.numbers.items in
    let tested = c.is_other.ensures files order finds (rw c.as_slice.ensures.value marks) in
    let before = c.loop-index.invariant files order finds marks in
    elim c.if-is_other.branch [
      | then-is_other+in_ok-push w ↦
          other_pushed (is_other files order) start now c.if-is_other.numbers.items c.loop-index.index
          (sym tested ∙ w.if-is_other.true) before (ap (λ (numbers : Vec ℕ g.row.A.Denot). numbers.items) w.numbers-is ∙ w.in_ok-push.ensures.items)
      | else-is_other w ↦
          ap (λ (numbers : Vec ℕ g.row.A.Denot). numbers.items) w.numbers-is ∙ other_passed (is_other files order) start now c.loop-index.index
          (sym tested ∙ w.if-is_other.false) before
    ]

pub returns : goal.returns
returns g c files finds =
    let order = ap slice_units c.unwrap_or-order.ensures ∙ units_or_none c.numbers.result c.new.result c.new.ensures
    ∙ c.numbers.ensures (files_of BootOrder files) (finds.each BootOrder _) in
    all_numbers files (slice_units c.unwrap_or-order.result) c.in_ok-numbers.numbers.items c.loop-index.numbers.items c.loop-index.index
    order c.in_ok-numbers.ensures.numbers (omega (arith, c.loop-index-test.false, c.loop-index.auto.index-end))
    (c.loop-index.invariant files (slice_units c.unwrap_or-order.result) finds c.in_ok-numbers.ensures.marks)
