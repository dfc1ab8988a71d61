use Rattle.std.proofs.Common.{◌∙◌, ◌++◌, ap, string_bytes}
use Rattle.uefi_base.specs.Views.{units_left}
use Rattle.boot_listing.proofs.Elements.{comma, element_last, element_next, no_gap}
use Rattle.boot_listing.specs.Json.{elements}
use Rattle.boot_listing.specs.List.{name_string}
use Rattle.boot_listing.proofs.list.push_name_strings.Goals as goal

pub loop-number-init : goal.loop-number-init
loop-number-init g c = record {
  gap = no_gap;
  names = ap (λ units. string_bytes c.args.text.now ++ elements name_string units)
      (ap units_left c.into_iter-number-iterator.ensures.into_iter_gives ∙ c.iter-number-items.ensures.units);
}

pub loop-number-preserved : goal.loop-number-preserved
loop-number-preserved g c = record {
  gap = comma;
  names = element_next name_string c.loop-number.gap.now (units_left c.loop-number.number-iterator) (units_left c.next.new.self)
      c.in-Some.number _ _ _ c.in-Some.ensures.steps c.in_ok-push_name_string.ensures c.loop-number.invariant.names;
}

pub returns : goal.returns
returns g c =
    element_last name_string c.loop-number.gap.now (units_left c.loop-number.number-iterator) _ _ c.in-None.ensures.steps.0
    c.loop-number.invariant.names
