use Rattle.std.proofs.lemmas.Result.{on_ok_weaker}
use Rattle.boot_listing.specs.List.{order_object}
use Rattle.boot_listing.proofs.Listings.{three_parts}
use Rattle.boot_listing.proofs.list.push_order_object.Goals as goal

pub returns : goal.returns
unfolding order_object
returns g c =
    on_ok_weaker c.writeln.result
    (λ grown. three_parts _ _ _ _ _ _ _ c.in_ok-push_str.ensures.bytes c.in_ok-push_name_strings.ensures grown)
    c.writeln.ensures.bytes
