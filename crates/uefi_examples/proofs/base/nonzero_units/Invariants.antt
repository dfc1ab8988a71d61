use Rattle.std.proofs.Common.{◌≡◌, ◌++◌, not}
use Rattle.std.specs.Prelude.{◌==◌, filter}
use Rattle.uefi_base.specs.Views.{slice_units, units_left}
use Rattle.uefi_examples.proofs.base.nonzero_units.Given as goal

abbrev pub invariant-loop-unit : goal.invariant-loop-unit
invariant-loop-unit l =
    l.units.items ++ filter (λ unit. not (unit == 0)) (units_left l.unit-iterator)
    ≡ filter (λ unit. not (unit == 0)) (slice_units l.slice)
