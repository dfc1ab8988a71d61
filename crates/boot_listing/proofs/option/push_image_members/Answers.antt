use Rattle.std.proofs.Common.{append_assoc}
use Rattle.boot_listing.specs.Text.{nodes_as_text}
use Rattle.boot_listing.specs.Option.{image_members}
use Rattle.boot_listing.proofs.option.push_image_members.Goals as goal

pub returns : goal.returns
unfolding image_members nodes_as_text
returns g c = simp append_assoc (simp (
  c.file_path.ensures,
  c.to_text-path.ensures,
  c.optional_data.ensures,
  c.as_str.ensures.value,
  c.in_ok-write.ensures.bytes,
  c.new-characters.ensures.bytes,
) at c.write-2.ensures.bytes)
