use Rattle.std.proofs.Common.{append_assoc}
use Rattle.boot_listing.specs.List.{option_name}
use Rattle.boot_listing.proofs.list.push_name.Goals as goal

pub returns : goal.returns
unfolding option_name
returns g c = simp append_assoc c.write.ensures.bytes
