-- Lemmas that the laws of `MemoryMapMut` cite: what stays of a map whose buffer is written.
use Rattle.std.specs.Prelude.{ℕ, ◌≡◌, List, length}
use Rattle.std.proofs.Common.{sym, ◌∙◌, ap}
use Rattle.std.proofs.lemmas.List.{with_items_is}
use Rattle.uefi_map.specs.declared.memory.map_ref_mut.MemoryMapRefMut.{MemoryMapRefMut}
use Rattle.uefi_map.specs.declared.memory.map_owned.MemoryMapOwned.{MemoryMapOwned}
use Rattle.uefi_map.specs.memory.Map.{meta_within}
use Rattle.uefi_map.specs.memory.Views.{mut_bytes, mut_meta, mut_with, owned_bytes, owned_meta, owned_with}

-- A buffer with the same length has the same map.
pub mut_meta-with : (map : MemoryMapRefMut) (bytes : List ℕ) → length bytes ≡ length (mut_bytes map)
    → mut_meta (mut_with map bytes) ≡ mut_meta map
mut_meta-with map bytes same = ap (λ n. meta_within n map.sizes) same

-- A map whose bytes are set has these bytes, and the same sizes.
pub owned_bytes-with : {A : Type 0} (map : MemoryMapOwned A) (bytes : List ℕ)
    → length bytes ≡ length (owned_bytes map) → owned_bytes (owned_with map bytes) ≡ bytes
owned_bytes-with map bytes same = with_items_is map.buffer bytes (same ∙ sym map.buffer.ok.0)

pub owned_meta-with : {A : Type 0} (map : MemoryMapOwned A) (bytes : List ℕ)
    → length bytes ≡ length (owned_bytes map) → owned_meta (owned_with map bytes) ≡ owned_meta map
owned_meta-with map bytes same = ap (λ n. meta_within n map.sizes) (ap length (owned_bytes-with map bytes same) ∙ same)
