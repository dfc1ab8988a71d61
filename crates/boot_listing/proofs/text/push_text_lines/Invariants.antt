use Rattle.std.proofs.Common.{◌≡◌, ◌++◌, string_bytes, flat_map}
use Rattle.uefi_path.specs.Path.{AreInstances}
use Rattle.uefi_path.specs.Views.{instances_left, path_nodes}
use Rattle.boot_listing.specs.Text.{text_line}
use Rattle.boot_listing.proofs.text.push_text_lines.Given as goal

abbrev pub invariant-loop-instance : goal.invariant-loop-instance
invariant-loop-instance g l = record {
  instances : AreInstances (instances_left l.initial.instance-iterator) (path_nodes l.path);
  lines : string_bytes l.text ++ flat_map text_line (instances_left l.instance-iterator)
      ≡ string_bytes l.initial.text ++ flat_map text_line (instances_left l.initial.instance-iterator);
}
