use Rattle.std.proofs.Common.{arith}
use Rattle.std.proofs.lemmas.Grind.{common_steps}
use Rattle.boot_listing.specs.List.{boot_option_object}
use Rattle.boot_listing.proofs.list.push_boot_option_object.Goals as goal

pub returns : goal.returns
unfolding boot_option_object
returns g c = grind (arith, common_steps)
