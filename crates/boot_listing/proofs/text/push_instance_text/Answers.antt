use Rattle.boot_listing.specs.Text.{nodes_as_text, text_line}
use Rattle.boot_listing.proofs.text.push_instance_text.Goals as goal

pub returns : goal.returns
unfolding nodes_as_text text_line
returns g c = simp c.instance_to_text-instance.ensures at c.writeln.ensures.bytes
