use Rattle.std.proofs.Common.{List, set, subst, ◌≡◌, ◌∙◌, ◌<◌, ◌^◌, ℕ, [], ◌∷◌, true, false, ap, sym, arith}
use Rattle.uefi_base.specs.Views.{units_left}
use Rattle.boot_listing.specs.Variables.{distinct_after, has_number}
use Rattle.boot_listing.specs.private.Marks.{AreMarks}
use Rattle.boot_listing.proofs.Distinct.{after_known, after_new, all_read, mark_tells, number_moved, marks_kept, marks_set, marks_of_all, no_marks}
use Rattle.boot_listing.proofs.variables.distinct.Goals as goal

pub loop-number-init : goal.loop-number-init
loop-number-init g c =
    let units = ap units_left c.into_iter-number-iterator.ensures.into_iter_gives ∙ c.iter-number-items.ensures.units in record {
      before = [];
      marks = no_marks c.in_ok-is_there.is_there.items (c.in_ok-is_there.ensures.items_if_clones_equal (λ clone same. same));
      numbers = rw c.new-numbers.ensures.items (ap (distinct_after []) units);
      all = λ number. ap (λ (t : List ℕ). has_number t number) (sym units);
    }

pub index-requires : goal.index-requires
index-requires g c = omega (arith, c.from-index.ensures, c.loop-number.invariant.marks.count)

pub index_mut-requires : goal.index_mut-requires
index_mut-requires g c = omega (arith, c.from-index.ensures, c.loop-number.invariant.marks.count)

pub loop-number-preserved-then-not-index : goal.loop-number-preserved-then-not-index
loop-number-preserved-then-not-index g c =
    let inv = c.loop-number.invariant in
    let number = c.in-Some.number in
    let small : number < 2 ^ 16 = omega arith in
    let is_new : has_number inv.before number ≡ false =
    mark_tells inv.before c.loop-number.is_there.items number _ c.index.result.now inv.marks small c.from-index.ensures c.index.ensures
    ∙ c.if-not-index.true in
    record {
      before = number ∷ inv.before;
      marks = subst (λ (i : ℕ). AreMarks (number ∷ inv.before) (set c.loop-number.is_there.items i true)) (sym c.from-index.ensures)
          (marks_set inv.before c.loop-number.is_there.items number inv.marks small);
      numbers = rw c.in_ok-push.ensures.items (after_new c.loop-number.numbers.items inv.before _ _ _ number c.in-Some.ensures.steps is_new inv.numbers);
      all = number_moved _ inv.before _ _ number c.in-Some.ensures.steps inv.all;
    }

pub loop-number-preserved : goal.loop-number-preserved
loop-number-preserved g c =
    let inv = c.loop-number.invariant in
    let number = c.in-Some.number in
    let small : number < 2 ^ 16 = omega arith in
    let is_known : has_number inv.before number ≡ true =
    mark_tells inv.before c.loop-number.is_there.items number _ c.index.result.now inv.marks small c.from-index.ensures c.index.ensures
    ∙ c.if-not-index.false in
    record {
      before = number ∷ inv.before;
      marks = marks_kept inv.before c.loop-number.is_there.items number inv.marks is_known;
      numbers = after_known c.loop-number.numbers.items inv.before _ _ _ number c.in-Some.ensures.steps is_known inv.numbers;
      all = number_moved _ inv.before _ _ number c.in-Some.ensures.steps inv.all;
    }

pub returns-clause-numbers : goal.returns-clause-numbers
returns-clause-numbers g c =
    all_read c.loop-number.numbers.items c.loop-number.invariant.before _ _ c.in-None.ensures.steps.0 c.loop-number.invariant.numbers

pub returns-clause-marks : goal.returns-clause-marks
returns-clause-marks g c =
    marks_of_all _ c.loop-number.invariant.before _ c.loop-number.is_there.items c.in-None.ensures.steps.0
    c.loop-number.invariant.marks c.loop-number.invariant.all
