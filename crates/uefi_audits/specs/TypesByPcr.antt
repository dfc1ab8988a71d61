-- The types of the events that extend each PCR of firmware (TCG PC Client Platform Firmware Profile 1.06, 10.4.1). Every one of these PCRs has an `EV_SEPARATOR` too.
use Rattle.std.specs.Prelude.{ℕ, ◌==◌, List, [], ◌∷◌, if◌then◌else◌}
use Rattle.uefi_tcg.specs.declared.event_type.EventType.{EventType}
use Rattle.uefi_tcg.specs.declared.event_type.TheConstants.EventType.{PREBOOT_CERT, POST_CODE, POST_CODE2, ACTION, EVENT_TAG, CRTM_CONTENTS, CRTM_VERSION, CPU_MICROCODE, PLATFORM_CONFIG_FLAGS}
use Rattle.uefi_tcg.specs.declared.event_type.TheConstants.EventType.{TABLE_OF_DEVICES, COMPACT_HASH, IPL, IPL_PARTITION_DATA, NONHOST_CODE, NONHOST_CONFIG, NONHOST_INFO, OMIT_BOOT_DEVICE_EVENTS}
use Rattle.uefi_tcg.specs.declared.event_type.TheConstants.EventType.{EFI_VARIABLE_DRIVER_CONFIG, EFI_VARIABLE_BOOT, EFI_VARIABLE_BOOT2, EFI_VARIABLE_AUTHORITY, EFI_ACTION, EFI_GPT_EVENT, EFI_GPT_EVENT2}
use Rattle.uefi_tcg.specs.declared.event_type.TheConstants.EventType.{EFI_BOOT_SERVICES_APPLICATION, EFI_BOOT_SERVICES_DRIVER, EFI_RUNTIME_SERVICES_DRIVER, EFI_PLATFORM_FIRMWARE_BLOB, EFI_PLATFORM_FIRMWARE_BLOB2}
use Rattle.uefi_tcg.specs.declared.event_type.TheConstants.EventType.{EFI_HANDOFF_TABLES, EFI_HANDOFF_TABLES2, EFI_HCRTM_EVENT, EFI_SPDM_FIRMWARE_BLOB, EFI_SPDM_FIRMWARE_CONFIG, EFI_SPDM_DEVICE_POLICY, EFI_SPDM_DEVICE_AUTHORITY}

-- Code of the platform: its root of trust, its firmware, and what it embeds.
abbrev pub types_in_0 : List EventType
types_in_0 =
    PREBOOT_CERT ∷ POST_CODE ∷ EVENT_TAG ∷ CRTM_CONTENTS ∷ CRTM_VERSION ∷ CPU_MICROCODE ∷ NONHOST_CODE ∷ NONHOST_INFO ∷ POST_CODE2
    ∷ EFI_BOOT_SERVICES_DRIVER ∷ EFI_RUNTIME_SERVICES_DRIVER ∷ EFI_PLATFORM_FIRMWARE_BLOB ∷ EFI_PLATFORM_FIRMWARE_BLOB2 ∷ EFI_HCRTM_EVENT ∷ []

-- The platform's configuration.
abbrev pub types_in_1 : List EventType
types_in_1 =
    ACTION ∷ EVENT_TAG ∷ CPU_MICROCODE ∷ PLATFORM_CONFIG_FLAGS ∷ TABLE_OF_DEVICES ∷ NONHOST_CONFIG ∷ EFI_VARIABLE_DRIVER_CONFIG ∷ EFI_VARIABLE_BOOT
    ∷ EFI_ACTION ∷ EFI_HANDOFF_TABLES ∷ EFI_HANDOFF_TABLES2 ∷ EFI_VARIABLE_BOOT2 ∷ []

-- Drivers and option ROMs.
abbrev pub types_in_2 : List EventType
types_in_2 =
    ACTION ∷ EVENT_TAG ∷ NONHOST_CODE ∷ NONHOST_INFO ∷ EFI_BOOT_SERVICES_APPLICATION ∷ EFI_BOOT_SERVICES_DRIVER ∷ EFI_RUNTIME_SERVICES_DRIVER
    ∷ EFI_ACTION ∷ EFI_PLATFORM_FIRMWARE_BLOB ∷ EFI_PLATFORM_FIRMWARE_BLOB2 ∷ EFI_SPDM_FIRMWARE_BLOB ∷ []

-- Their configuration.
abbrev pub types_in_3 : List EventType
types_in_3 = ACTION ∷ EVENT_TAG ∷ NONHOST_CONFIG ∷ EFI_VARIABLE_DRIVER_CONFIG ∷ EFI_ACTION ∷ EFI_SPDM_FIRMWARE_CONFIG ∷ []

-- Loaders, and attempts to boot.
abbrev pub types_in_4 : List EventType
types_in_4 =
    ACTION ∷ EVENT_TAG ∷ COMPACT_HASH ∷ IPL ∷ OMIT_BOOT_DEVICE_EVENTS ∷ EFI_BOOT_SERVICES_APPLICATION ∷ EFI_BOOT_SERVICES_DRIVER
    ∷ EFI_RUNTIME_SERVICES_DRIVER ∷ EFI_ACTION ∷ EFI_PLATFORM_FIRMWARE_BLOB ∷ EFI_PLATFORM_FIRMWARE_BLOB2 ∷ []

-- The loaders' configuration, and the partition table. Firmware with a TPM 1.2 has the boot variables here.
abbrev pub types_in_5 : List EventType
types_in_5 =
    ACTION ∷ EVENT_TAG ∷ COMPACT_HASH ∷ IPL_PARTITION_DATA ∷ EFI_VARIABLE_DRIVER_CONFIG ∷ EFI_VARIABLE_BOOT ∷ EFI_GPT_EVENT ∷ EFI_ACTION
    ∷ EFI_GPT_EVENT2 ∷ []

-- What the platform's maker chooses.
abbrev pub types_in_6 : List EventType
types_in_6 = ACTION ∷ EVENT_TAG ∷ COMPACT_HASH ∷ EFI_ACTION ∷ []

-- The policy of Secure Boot.
abbrev pub types_in_7 : List EventType
types_in_7 =
    EFI_VARIABLE_DRIVER_CONFIG ∷ EFI_ACTION ∷ EFI_VARIABLE_AUTHORITY ∷ EFI_SPDM_DEVICE_POLICY ∷ EFI_SPDM_DEVICE_AUTHORITY ∷ []

-- The types of a PCR of firmware; none of the others.
unfoldable pub types_in : ℕ → List EventType
types_in pcr =
    if pcr == 0 then types_in_0 else if pcr == 1 then types_in_1 else if pcr == 2 then types_in_2 else if pcr == 3 then types_in_3
    else if pcr == 4 then types_in_4 else if pcr == 5 then types_in_5 else if pcr == 6 then types_in_6
    else if pcr == 7 then types_in_7 else []

-- Those that may follow the PCR's separator: what is loaded and measured once firmware begins to boot.
unfoldable pub types_after_separator : ℕ → List EventType
types_after_separator pcr =
    if pcr == 1 then EFI_HANDOFF_TABLES ∷ EFI_HANDOFF_TABLES2 ∷ []
    else if pcr == 2 then EFI_BOOT_SERVICES_DRIVER ∷ EFI_RUNTIME_SERVICES_DRIVER ∷ []
    else if pcr == 4 then OMIT_BOOT_DEVICE_EVENTS ∷ EFI_BOOT_SERVICES_APPLICATION ∷ EFI_BOOT_SERVICES_DRIVER ∷ EFI_ACTION ∷ []
    else if pcr == 5 then EVENT_TAG ∷ EFI_VARIABLE_BOOT ∷ EFI_GPT_EVENT ∷ EFI_ACTION ∷ EFI_GPT_EVENT2 ∷ []
    else if pcr == 7 then EFI_VARIABLE_AUTHORITY ∷ []
    else []

-- Those of a BIOS, which it measures as it boots.
abbrev pub types_of_bios : List EventType
types_of_bios = ACTION ∷ IPL ∷ IPL_PARTITION_DATA ∷ []
