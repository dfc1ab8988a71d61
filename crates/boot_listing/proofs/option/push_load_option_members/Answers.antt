use Rattle.std.proofs.Common.{arith}
use Rattle.std.proofs.lemmas.Grind.{common_steps}
use Rattle.boot_listing.specs.Option.{load_option_members}
use Rattle.boot_listing.proofs.option.push_load_option_members.Goals as goal

pub returns : goal.returns
unfolding load_option_members
returns g c = grind (arith, common_steps)
