use Rattle.std.proofs.Common.{append_assoc}
use Rattle.boot_listing.specs.List.{description_line}
use Rattle.boot_listing.proofs.list.push_description.Goals as goal

pub returns : goal.returns
unfolding description_line
returns g c = let z = c.new-characters.ensures in
    simp append_assoc (simp (c.as_str.ensures.value, c.in_ok-write.ensures.bytes, c.new-characters.ensures.bytes) at c.writeln.ensures.bytes)
