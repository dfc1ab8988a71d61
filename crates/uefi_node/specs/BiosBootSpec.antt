-- Nodes of the type BIOS_BOOT_SPEC (UEFI 2.10, 10.3.6), field by field as in the standard's tables.
use Rattle.std.specs.Prelude.{[], ◌∷◌}
use Rattle.uefi_node.specs.Layout.{Layout, layout, number, two, bytes}
use Rattle.uefi_node.specs.declared.bios_boot_spec.boot_specification.BootSpecification.{BootSpecification}

-- A boot device of the BIOS Boot Specification (10.3.6).
abbrev pub boot_specification : Layout BootSpecification
boot_specification = layout 5 1 (
    number two (λ b. b.device_type.0)
    ∷ number two (λ b. b.status_flag)
    ∷ []
    ) (bytes (λ b. b.description_string.now))
