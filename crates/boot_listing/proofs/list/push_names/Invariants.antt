use Rattle.std.proofs.Common.{◌≡◌, ◌++◌, string_bytes, flat_map}
use Rattle.uefi_base.specs.Views.{slice_units, units_left}
use Rattle.boot_listing.specs.List.{option_name}
use Rattle.boot_listing.proofs.list.push_names.Given as goal

abbrev pub invariant-loop-number : goal.invariant-loop-number
invariant-loop-number g l = string_bytes l.text ++ flat_map option_name (units_left l.number-iterator)
    ≡ string_bytes l.initial.text ++ flat_map option_name (slice_units l.fn.numbers)
