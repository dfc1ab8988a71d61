use Rattle.std.proofs.Common.{append_assoc}
use Rattle.boot_listing.specs.List.{state_members}
use Rattle.boot_listing.proofs.list.push_state_members.Goals as goal

pub returns : goal.returns
unfolding state_members
returns g c = simp append_assoc (simp c.json_state-active.ensures at c.write.ensures.bytes)
