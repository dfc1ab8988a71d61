-- The texts of errors.
use Rattle.std.specs.Prelude.{ℕ, List, codes}
use Rattle.uefi_map.specs.declared.memory.map_error.MemoryMapError.{MemoryMapError}
use Rattle.uefi_map.specs.declared.memory.map_error.MemoryMapError.TheVariants.{Misaligned, InvalidSize}

-- The name of the error.
abbrev pub map_error_text : MemoryMapError → List ℕ
map_error_text Misaligned = codes "Misaligned"
map_error_text InvalidSize = codes "InvalidSize"
