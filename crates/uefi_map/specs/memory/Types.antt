-- The types of memory (UEFI 2.10, 7.2.1 "EFI_BOOT_SERVICES.AllocatePages()", EFI_MEMORY_TYPE).
use Rattle.std.specs.Prelude.{ℕ, ◌&&◌, ◌||◌, Bool, nat_le, List, [], ◌∷◌, slice_get, Option, codes}

-- Their names, from 0 on.
abbrev pub memory_types : List (List ℕ)
memory_types =
    codes "EfiReservedMemoryType" ∷ codes "EfiLoaderCode" ∷ codes "EfiLoaderData" ∷ codes "EfiBootServicesCode"
    ∷ codes "EfiBootServicesData" ∷ codes "EfiRuntimeServicesCode" ∷ codes "EfiRuntimeServicesData"
    ∷ codes "EfiConventionalMemory" ∷ codes "EfiUnusableMemory" ∷ codes "EfiACPIReclaimMemory"
    ∷ codes "EfiACPIMemoryNVS" ∷ codes "EfiMemoryMappedIO" ∷ codes "EfiMemoryMappedIOPortSpace"
    ∷ codes "EfiPalCode" ∷ codes "EfiPersistentMemory" ∷ codes "EfiUnacceptedMemoryType" ∷ []

unfoldable pub memory_type_name : ℕ → Option (List ℕ)
memory_type_name number = slice_get memory_types number

-- The numbers that are left to OEMs, and to loaders of operating systems.
abbrev pub is_oem : ℕ → Bool
is_oem number = nat_le 0x70000000 number && nat_le number 0x7fffffff

abbrev pub is_os_loader : ℕ → Bool
is_os_loader number = nat_le 0x80000000 number

abbrev pub is_custom : ℕ → Bool
is_custom number = is_oem number || is_os_loader number
