use Rattle.std.proofs.Common.{append_assoc}
use Rattle.boot_listing.specs.List.{image_lines}
use Rattle.boot_listing.specs.Text.{nodes_as_text}
use Rattle.boot_listing.proofs.list.push_image.Goals as goal

pub returns : goal.returns
unfolding image_lines nodes_as_text
returns g c = simp append_assoc (simp (
  c.file_path.ensures,
  c.to_text-path.ensures,
  c.optional_data.ensures,
  c.optional_data-2.ensures,
  c.gap_before-gap.ensures,
) at c.writeln.ensures.bytes)
