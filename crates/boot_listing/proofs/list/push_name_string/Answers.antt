use Rattle.std.proofs.Common.{append_assoc}
use Rattle.boot_listing.specs.List.{name_string}
use Rattle.boot_listing.proofs.list.push_name_string.Goals as goal

pub returns : goal.returns
unfolding name_string
returns g c = simp append_assoc c.write.ensures.bytes
