use Rattle.std.proofs.Common.{◌++◌, refl}
use Rattle.std.proofs.lemmas.Result.{on_ok_weaker}
use Rattle.boot_listing.specs.List.{current_lines, order_lines}
use Rattle.boot_listing.specs.Variables.{files_of}
use Rattle.boot_listing.specs.declared.variables.BootVariable.TheVariants.{BootCurrent, BootOrder}
use Rattle.boot_listing.proofs.Listings.{three_parts}
use Rattle.boot_listing.proofs.list.push_variables.Goals as goal

pub push_options-requires : goal.push_options-requires
push_options-requires g c = c.in_ok-found.ensures.count

pub returns : goal.returns
returns g c =
    let files = c.args.files.now in
    let finds = c.in_ok-found.ensures in
    let current = current_lines c.args.form (files_of BootCurrent files) in
    let order = order_lines c.args.form (files_of BootOrder files) in
    let first = c.in_ok-push_current.ensures (files_of BootCurrent files) (finds.each BootCurrent _) in
    let second = c.in_ok-push_order.ensures (files_of BootOrder files) (finds.each BootOrder _) in
    on_ok_weaker c.push_options.result
    (λ grown. let options = grown files finds in (
      current ++ order ++ options.0,
      (options.0, options.1, refl),
      three_parts _ _ _ _ current order options.0 first second options.2,
    ))
    c.push_options.ensures
