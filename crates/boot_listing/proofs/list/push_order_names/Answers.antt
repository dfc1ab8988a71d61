use Rattle.std.proofs.Common.{arith}
use Rattle.std.proofs.lemmas.Grind.{common_steps}
use Rattle.boot_listing.specs.List.{order_names}
use Rattle.boot_listing.proofs.list.push_order_names.Goals as goal

pub returns : goal.returns
unfolding order_names
returns g c = grind (arith, common_steps)
