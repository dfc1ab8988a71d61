-- Nodes of the type HARDWARE (UEFI 2.10, 10.3.2), field by field as in the standard's tables.
use Rattle.std.specs.Prelude.{[], ◌∷◌}
use Rattle.uefi_node.specs.Layout.{Layout, layout, byte, number, array, four, eight, nothing, bytes}
use Rattle.uefi_node.specs.declared.hardware.pci.Pci.{Pci}
use Rattle.uefi_node.specs.declared.hardware.pccard.Pccard.{Pccard}
use Rattle.uefi_node.specs.declared.hardware.memory_mapped.MemoryMapped.{MemoryMapped}
use Rattle.uefi_node.specs.declared.hardware.vendor.Vendor.{Vendor}
use Rattle.uefi_node.specs.declared.hardware.controller.Controller.{Controller}
use Rattle.uefi_node.specs.declared.hardware.bmc.Bmc.{Bmc}

-- A PCI function (10.3.2.1).
abbrev pub pci : Layout Pci
pci = layout 1 1 (byte (λ p. p.function) ∷ byte (λ p. p.device) ∷ []) nothing

-- A PC Card (10.3.2.2).
abbrev pub pccard : Layout Pccard
pccard = layout 1 2 (byte (λ p. p.function) ∷ []) nothing

-- A range of memory (10.3.2.3).
abbrev pub memory_mapped : Layout MemoryMapped
memory_mapped = layout 1 3 (
    number four (λ m. m.memory_type.0)
    ∷ number eight (λ m. m.start_address)
    ∷ number eight (λ m. m.end_address)
    ∷ []
    ) nothing

-- A device that its vendor describes (10.3.2.4).
abbrev pub vendor : Layout Vendor
vendor = layout 1 4 (array 16 (λ v. v.vendor_guid.0) ∷ []) (bytes (λ v. v.vendor_defined_data.now))

-- A controller (10.3.2.5).
abbrev pub controller : Layout Controller
controller = layout 1 5 (number four (λ c. c.controller_number) ∷ []) nothing

-- A baseboard management controller (BMC) (10.3.2.6).
abbrev pub bmc : Layout Bmc
bmc = layout 1 6 (byte (λ b. b.interface_type.0) ∷ number eight (λ b. b.base_address) ∷ []) nothing
