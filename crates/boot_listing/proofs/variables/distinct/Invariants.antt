use Rattle.std.proofs.Common.{◌≡◌, ◌||◌, ℕ, List, [], ◌++◌}
use Rattle.uefi_base.specs.Views.{slice_units, units_left}
use Rattle.boot_listing.specs.Variables.{distinct_after, has_number}
use Rattle.boot_listing.specs.private.Marks.{AreMarks}
use Rattle.boot_listing.proofs.variables.distinct.Given as goal

-- The numbers that were read before.
abbrev pub invariant-loop-number : goal.invariant-loop-number
invariant-loop-number g l = record {
  before : List ℕ;
  marks : AreMarks before l.is_there.items;
  numbers : l.numbers.items ++ distinct_after before (units_left l.number-iterator) ≡ distinct_after [] (slice_units l.fn.order);
  all : (number : ℕ) → has_number (slice_units l.fn.order) number ≡ has_number before number || has_number (units_left l.number-iterator) number;
}
