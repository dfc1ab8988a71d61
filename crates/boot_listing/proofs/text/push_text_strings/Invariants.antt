use Rattle.std.proofs.Common.{◌≡◌, ◌++◌, string_bytes}
use Rattle.std.specs.Prelude.{IsUtf8}
use Rattle.uefi_path.specs.Path.{AreInstances}
use Rattle.uefi_path.specs.Views.{instances_left, path_nodes}
use Rattle.boot_listing.specs.Json.{elements, elements_behind}
use Rattle.boot_listing.specs.Text.{text_string}
use Rattle.boot_listing.proofs.text.push_text_strings.Given as goal

abbrev pub invariant-loop-instance : goal.invariant-loop-instance
invariant-loop-instance g l = record {
  gap : IsUtf8 l.gap;
  instances : AreInstances (instances_left l.initial.instance-iterator) (path_nodes l.path);
  strings : string_bytes l.text ++ elements_behind l.gap text_string (instances_left l.instance-iterator)
      ≡ string_bytes l.initial.text ++ elements text_string (instances_left l.initial.instance-iterator);
}
