-- The types of device path nodes, with their names (UEFI 2.10, 10.3).
use Rattle.std.specs.Prelude.{ℕ, ◌==◌, List, [], ◌∷◌, Option, codes}
use Rattle.std.specs.List.{find}
use Rattle.std.specs.Option.{option_map}

abbrev pub device_types : List (ℕ × List ℕ)
device_types =
    (0x01, codes "Hardware Device Path") ∷ (0x02, codes "ACPI Device Path") ∷ (0x03, codes "Messaging Device Path")
    ∷ (0x04, codes "Media Device Path") ∷ (0x05, codes "BIOS Boot Specification Device Path")
    ∷ (0x7f, codes "End of Hardware Device Path") ∷ []

unfoldable pub device_type_name : ℕ → Option (List ℕ)
device_type_name number = option_map (λ row. row.1) (find (λ row. row.0 == number) device_types)
