-- Devices that numbers and strings name (UEFI 2.10, 10.3.3, "Expanded ACPI Device Path").
use Rattle.std.specs.Prelude.{◌&&◌, [], ◌∷◌}
use Rattle.uefi_node.specs.Layout.{Layout, number, four, bytes, three_strings}
use Rattle.uefi_node.specs.NulStrings.{is_without_nul, strings_bytes}
use Rattle.uefi_node.specs.declared.acpi.expanded.Expanded.{Expanded}

-- An expanded ACPI device: no string has a NUL.
abbrev pub expanded : Layout Expanded
expanded = record {
  device_type = 2;
  sub_type = 2;
  fields = number four (λ e. e.hid) ∷ number four (λ e. e.uid) ∷ number four (λ e. e.cid) ∷ [];
  rest = bytes (λ e. strings_bytes e.hid_str.now e.uid_str.now e.cid_str.now);
  form = three_strings;
  is_value = λ e. is_without_nul e.hid_str.now && is_without_nul e.uid_str.now && is_without_nul e.cid_str.now;
}
