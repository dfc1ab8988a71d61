use Rattle.std.proofs.Common.{◌≡◌, ◌++◌, string_bytes}
use Rattle.std.specs.Prelude.{IsUtf8}
use Rattle.uefi_base.specs.Views.{slice_units, units_left}
use Rattle.boot_listing.specs.Json.{elements, elements_behind}
use Rattle.boot_listing.specs.List.{name_string}
use Rattle.boot_listing.proofs.list.push_name_strings.Given as goal

abbrev pub invariant-loop-number : goal.invariant-loop-number
invariant-loop-number g l = record {
  gap : IsUtf8 l.gap;
  names : string_bytes l.text ++ elements_behind l.gap name_string (units_left l.number-iterator)
      ≡ string_bytes l.initial.text ++ elements name_string (slice_units l.fn.numbers);
}
