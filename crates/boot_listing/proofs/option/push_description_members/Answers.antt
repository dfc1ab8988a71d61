use Rattle.std.proofs.Common.{append_assoc}
use Rattle.boot_listing.specs.Option.{description_members}
use Rattle.boot_listing.proofs.option.push_description_members.Goals as goal

pub returns : goal.returns
unfolding description_members
returns g c = let z = c.new-characters.ensures in
    simp append_assoc (simp (c.bits-attributes.ensures, c.as_str.ensures.value, c.in_ok-write.ensures.bytes, c.new-characters.ensures.bytes) at c.write-2.ensures.bytes)
