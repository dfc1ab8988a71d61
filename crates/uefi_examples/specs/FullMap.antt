-- What a map that is as long as its buffer stands for.
use Rattle.std.specs.Prelude.{ℕ, ◌≡◌, ◌-◌, ◌%◌, List, length}
use Rattle.std.specs.Vec.{with_items}
use Rattle.std.proofs.Common.{sym, ◌∙◌, ap}
use Rattle.std.proofs.lemmas.List.{with_items_is}
use Rattle.uefi_examples.specs.declared.full_map.FullMap.{FullMap}
use Rattle.uefi_map.specs.declared.memory.meta.MemoryMapKey.{MemoryMapKey}
use Rattle.uefi_map.specs.declared.memory.meta.MemoryMapMeta.{MemoryMapMeta}

abbrev pub full_bytes : FullMap → List ℕ
full_bytes map = map.buffer.items

-- The sizes of the whole strides in a count of bytes.
abbrev pub sizes : MemoryMapKey → ℕ → MemoryMapMeta
sizes key count = record { map_size = count - count % 48; desc_size = 48; map_key = key; desc_version = 1 }

abbrev pub full_meta : FullMap → MemoryMapMeta
full_meta map = sizes map.key (length map.buffer.items)

-- The map with these bytes in its buffer, which has the same sizes where there are as many.
abbrev pub full_with : FullMap → List ℕ → FullMap
full_with map bytes = record map { buffer = with_items map.buffer bytes }

pub full_bytes-with : (map : FullMap) (bytes : List ℕ) → length bytes ≡ length (full_bytes map)
    → full_bytes (full_with map bytes) ≡ bytes
full_bytes-with map bytes same = with_items_is map.buffer bytes (same ∙ sym map.buffer.ok.0)

pub full_meta-with : (map : FullMap) (bytes : List ℕ) → length bytes ≡ length (full_bytes map)
    → full_meta (full_with map bytes) ≡ full_meta map
full_meta-with map bytes same = ap (sizes map.key) (ap length (full_bytes-with map bytes same) ∙ same)
