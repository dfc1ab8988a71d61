use Rattle.std.proofs.Common.{◌∙◌, ◌++◌, ap, flat_map, string_bytes}
use Rattle.uefi_base.specs.Views.{units_left}
use Rattle.shown.proofs.Appending.{appended_last, appended_next}
use Rattle.boot_listing.specs.List.{option_name, option_names}
use Rattle.boot_listing.proofs.list.push_names.Goals as goal

pub loop-number-init : goal.loop-number-init
loop-number-init g c =
    ap (λ units. string_bytes c.args.text.now ++ flat_map option_name units)
    (ap units_left c.into_iter-number-iterator.ensures.into_iter_gives ∙ c.iter-number-items.ensures.units)

pub loop-number-preserved : goal.loop-number-preserved
loop-number-preserved g c =
    appended_next option_name (units_left c.loop-number.number-iterator) (units_left c.next.new.self) c.in-Some.number _ _ _
    c.in-Some.ensures.steps c.in_ok-push_name.ensures c.loop-number.invariant

pub returns : goal.returns
unfolding option_names
returns g c =
    appended_last option_name (units_left c.loop-number.number-iterator) _ _ c.in-None.ensures.steps.0 c.loop-number.invariant
