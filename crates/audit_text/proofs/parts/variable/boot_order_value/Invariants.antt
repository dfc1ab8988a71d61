use Rattle.std.proofs.Common.{◌≡◌, ◌++◌, map}
use Rattle.uefi_base.specs.Views.{units_left}
use Rattle.audit_text.specs.parts.Part.{boot_number}
use Rattle.audit_text.specs.private.PartViews.{value_of}
use Rattle.audit_text.proofs.parts.variable.boot_order_value.Given as goal

-- The numbers so far and those to come are all.
abbrev pub invariant-loop-number : goal.invariant-loop-number
invariant-loop-number l = map value_of l.numbers.items ++ map boot_number (units_left l.number-iterator)
    ≡ map boot_number (units_left l.initial.number-iterator)
