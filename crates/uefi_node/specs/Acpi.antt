-- Nodes of the type ACPI (UEFI 2.10, 10.3.3), field by field as in the standard's tables.
use Rattle.std.specs.Prelude.{[], ◌∷◌}
use Rattle.uefi_node.specs.Layout.{Layout, layout, number, four, nothing, numbers}
use Rattle.uefi_node.specs.Views.{adr_bytes}
use Rattle.uefi_node.specs.declared.acpi.device.Acpi.{Acpi}
use Rattle.uefi_node.specs.declared.acpi.adr.Adr.{Adr}
use Rattle.uefi_node.specs.declared.acpi.nvdimm.Nvdimm.{Nvdimm}

-- A device that numbers of its ACPI object name (10.3.3).
abbrev pub acpi : Layout Acpi
acpi = layout 2 1 (number four (λ a. a.hid) ∷ number four (λ a. a.uid) ∷ []) nothing

-- Video outputs, by the addresses (`_ADR`) of their ACPI objects (10.3.3.1).
abbrev pub adr : Layout Adr
adr = layout 2 3 [] (numbers (λ a. adr_bytes a.adr))

-- An NVDIMM (10.3.3.2).
abbrev pub nvdimm : Layout Nvdimm
nvdimm = layout 2 4 (number four (λ n. n.nfit_device_handle) ∷ []) nothing
