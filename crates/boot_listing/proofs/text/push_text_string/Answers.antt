use Rattle.std.proofs.Common.{append_assoc}
use Rattle.boot_listing.specs.Text.{text_string, nodes_as_text}
use Rattle.boot_listing.proofs.text.push_text_string.Goals as goal

pub returns : goal.returns
unfolding text_string nodes_as_text
returns g c = simp append_assoc (simp (
  c.instance_to_text-instance.ensures,
  c.as_str.ensures.value,
  c.in_ok-write.ensures.bytes,
  c.new-characters.ensures.bytes,
) at c.write-2.ensures.bytes)
