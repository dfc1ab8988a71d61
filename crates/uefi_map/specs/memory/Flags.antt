-- Flags that have a name.
use Rattle.std.specs.Prelude.{ℕ}

-- The memory attributes that have a name (UEFI 2.10, 7.2.3 "EFI_BOOT_SERVICES.GetMemoryMap()"): EFI_MEMORY_UC, WC, WT,
-- WB and UCE; WP, RP, XP and NV; MORE_RELIABLE, RO, SP and CPU_CRYPTO; ISA_MASK; ISA_VALID and RUNTIME.
abbrev pub named_attributes : ℕ
named_attributes = 0xcffff000000ff01f
