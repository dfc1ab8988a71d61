use Rattle.std.proofs.Common.{◌∙◌, length, refl, rules}
use Rattle.std.specs.Prelude.{codes}
use Rattle.uefi_map.specs.memory.Map.{entries_of}
use Rattle.uefi_listing.specs.Map.{map_lines}
use Rattle.uefi_listing.specs.Map.{file_meta}
use Rattle.uefi_listing.proofs.map.push_map_listing.Goals as goal

-- The lines of a map over the file, with the sizes of the file, list the file.
pub returns-in_ok-push_map-in-Ok : goal.returns-in_ok-push_map-in-Ok
returns-in_ok-push_map-in-Ok g c =
    let same = c.in-Ok.ensures.buffer in
    let sizes = c.in-Ok.ensures.meta ∙ c.file_meta.ensures in
    let grown = c.in_ok-push_map-in-Ok.ensures in
    let entries = entries_of c.args.bytes.now (file_meta (length c.args.bytes.now) c.args.stride) in (
      map_lines entries grown.0,
      (
        grown.0,
        record {
          map = rw (same, sizes) at c.in-Ok.map.map;
          order = rw (same, sizes) at grown.1;
          lines =
              refl;
        },
      ),
      rw (same, sizes) at grown.2,
    )

pub returns-in_ok-writeln-in-Err : goal.returns-in_ok-writeln-in-Err
returns-in_ok-writeln-in-Err g c =
    (codes "refused InvalidSize\n", (search rules, refl), c.in_ok-writeln-in-Err.ensures.bytes)
