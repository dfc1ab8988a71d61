-- The descriptors of whole strides, one stride after another.
use Rattle.std.proofs.Common.{◌≡◌, ℕ, zero, suc, ◌+◌, ◌*◌, ◌/◌, ◌%◌, ◌≤◌, ◌<◌, List, ◌∷◌, length, take, drop, refl}
use Rattle.std.proofs.Common.{sym, ◌∙◌, ap, arith, length-drop}
use Rattle.std.proofs.lemmas.List.{length-take-le}
use Rattle.std.proofs.lemmas.Grind.{rows, common_steps}
use Rattle.std.proofs.Math.Nat.{div-eq-sub-div, div-le_self}
use Rattle.uefi_map.specs.declared.memory.meta.MemoryMapMeta.{MemoryMapMeta}
use Rattle.uefi_map.specs.memory.Descriptor.{descriptor_length, descriptor_in, descriptor_bytes}
use Rattle.uefi_map.specs.memory.Map.{IsMap, descriptors_from, entries_of}
use Rattle.uefi_map.specs.private.memory.Map.{AreStrides}
use Rattle.uefi_base.proofs.Ranges.{range-take}

-- There are as many descriptors as are asked for.
pub count_from : (bytes : List ℕ) (stride i count : ℕ) → length (descriptors_from bytes stride i count) ≡ count
count_from bytes stride i zero = refl
count_from bytes stride i (suc count) = ap suc (count_from bytes stride (i + 1) count)

-- There are no more descriptors than bytes.
pub few_from : (bytes : List ℕ) (stride i size : ℕ) → length (descriptors_from bytes stride i (size / stride)) ≤ size
few_from bytes stride i size = omega (arith, count_from bytes stride i (size / stride), div-le_self size stride)

-- The same forty bytes, the same descriptors.
pub same_from : (one other : List ℕ) (stride i n : ℕ)
    → ((j : ℕ) → i ≤ j → j < i + n → descriptor_bytes one stride j ≡ descriptor_bytes other stride j)
    → descriptors_from one stride i n ≡ descriptors_from other stride i n
same_from one other stride i zero same = refl
same_from one other stride i (suc n) same =
    let first = same i (omega arith) (omega arith) in
    let rest = same_from one other stride (i + 1) n (λ j above below. same j (omega arith) (omega arith)) in
    λ k. descriptor_in (first k) ∷ rest k

-- A descriptor ends within its map.
pub ends_within : (stride size i : ℕ) → descriptor_length ≤ stride → i < size / stride
    → i * stride + descriptor_length ≤ size
ends_within stride size i room before = grind (arith, rows, common_steps)

-- The descriptors of a map are those of its bytes alone.
pub whole_map : (bytes : List ℕ) (meta : MemoryMapMeta) → IsMap (length bytes) meta
    → descriptors_from (take meta.map_size bytes) meta.desc_size 0
    (length (take meta.map_size bytes) / meta.desc_size) ≡ entries_of bytes meta
whole_map bytes meta map =
    let size = meta.map_size in
    let stride = meta.desc_size in
    ap (λ n. descriptors_from (take size bytes) stride 0 (n / stride)) (length-take-le size bytes map.within)
    ∙ same_from (take size bytes) bytes stride 0 (size / stride)
    (λ j above below. range-take size bytes (j * stride) (j * stride + descriptor_length) (omega arith)
    (ends_within stride size j map.room (omega arith)))

-- Without the first stride, each descriptor is the next.
next_bytes : (bytes : List ℕ) (stride i : ℕ)
    → descriptor_bytes (drop stride bytes) stride i ≡ descriptor_bytes bytes stride (i + 1)
next_bytes bytes stride i = grind (arith, rows, common_steps)

next_from : (bytes : List ℕ) (stride i count : ℕ)
    → descriptors_from (drop stride bytes) stride i count ≡ descriptors_from bytes stride (i + 1) count
next_from bytes stride i zero = refl
next_from bytes stride i (suc count) =
    λ j. descriptor_in (next_bytes bytes stride i j) ∷ next_from bytes stride (i + 1) count j

-- Strides that are not none are at least one.
one_size : (stride size : ℕ) → 0 < size → size % stride ≡ 0 → stride ≤ size
one_size stride size some whole = grind (arith, rows, common_steps)

pub one_stride : (stride : ℕ) (bytes : List ℕ) → AreStrides stride bytes → 0 < length bytes
    → stride ≤ length bytes
one_stride stride bytes strides some = one_size stride (length bytes) some strides.whole

-- Strides that are not none have room for a descriptor.
pub first_room : (stride : ℕ) (bytes : List ℕ) → AreStrides stride bytes → 0 < length bytes
    → descriptor_length ≤ length bytes
first_room stride bytes strides some = omega (arith, strides.room, one_stride stride bytes strides some)

-- The first of the descriptors that are left, and the others.
pub next_left : (bytes : List ℕ) (stride : ℕ) → AreStrides stride bytes → 0 < length bytes
    → descriptors_from bytes stride 0 (length bytes / stride)
    ≡ descriptor_in (take descriptor_length bytes) ∷ descriptors_from (drop stride bytes) stride 0
    (length (drop stride bytes) / stride)
next_left bytes stride strides some =
    let reaches = one_stride stride bytes strides some in
    let positive : 0 < stride = omega (arith, strides.room) in
    let left : ℕ = length (drop stride bytes) / stride in
    let count : length bytes / stride ≡ suc left =
    omega (arith, div-eq-sub-div positive reaches, ap (λ n. n / stride) (length-drop stride bytes)) in
    let first : descriptor_bytes bytes stride 0 ≡ take descriptor_length bytes = grind (arith, common_steps) in
    let rest = next_from bytes stride 0 left in
    ap (descriptors_from bytes stride 0) count ∙ (λ i. descriptor_in (first i) ∷ sym rest i)

-- What holds of strides that are not none: the first one is there, and has the first descriptor.
pub ruleset first_stride = (first_room, one_stride, next_left)
