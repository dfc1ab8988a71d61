use Rattle.std.proofs.Common.{append_assoc}
use Rattle.uefi_listing.specs.Info.{info_lines}
use Rattle.uefi_listing.proofs.info.push_info.Goals as goal

pub returns : goal.returns
unfolding info_lines
returns g c =
    simp append_assoc (simp (
      c.size-size.ensures,
      c.file_size-file.ensures,
      c.physical_size-physical.ensures,
      c.create_time.ensures,
      c.last_access_time.ensures,
      c.modification_time.ensures,
      c.bits.ensures,
      c.attribute.ensures,
      c.file_name.ensures.units,
      append_assoc,
    ) at c.writeln.ensures.bytes)
