-- A memory map, descriptor by descriptor.
use Rattle.std.proofs.Common.{◌≡◌, ℕ, suc, ◌+◌, ◌-◌, ◌<◌, ◌≤◌, List, [], ◌∷◌, ◌++◌, map, Bool, true, false, Some, None}
use Rattle.std.proofs.Common.{sym, ap, ◌∙◌, append_assoc, arith}
use Rattle.std.specs.Prelude.{nat_lt, if◌then◌else◌}
use Rattle.std.proofs.lemmas.List.{append-nil, map-append}
use Rattle.uefi_map.specs.declared.memory.descriptor.MemoryDescriptor.{MemoryDescriptor}
use Rattle.uefi_map.specs.declared.memory.meta.MemoryMapMeta.{MemoryMapMeta}
use Rattle.uefi_map.specs.memory.Descriptor.{descriptor}
use Rattle.uefi_map.specs.memory.Map.{descriptors_from, entries_of, entry_of, count_of}
use Rattle.uefi_c.specs.declared.map.UefiDescriptor.{UefiDescriptor}
use Rattle.uefi_c.specs.Map.{descriptor_of}

-- The descriptors before the index were seen.
pub record Seen (bytes : List ℕ) (meta : MemoryMapMeta) (index : ℕ) (views : List UefiDescriptor) : Type 0 where
  pub within : index ≤ count_of meta
  pub all : entries_of bytes meta ≡ map descriptor_of views ++ descriptors_from bytes meta.desc_size index
      (count_of meta - index)

pub none_yet : (bytes : List ℕ) (meta : MemoryMapMeta) → Seen bytes meta 0 []
none_yet bytes meta =
    let none : count_of meta ≡ count_of meta - 0 = omega arith in
    record { within = omega arith; all = ap (descriptors_from bytes meta.desc_size 0) none }

-- The descriptor at an index is the one that was read there.
entry_is : (bytes : List ℕ) (meta : MemoryMapMeta) (i : ℕ) (d : MemoryDescriptor) → entry_of bytes meta i ≡ Some d
    → descriptor bytes meta.desc_size i ≡ d
entry_is bytes meta i d is = by_test (nat_lt i (count_of meta)) is
  where
    by_test : (t : Bool) → (if t then Some (descriptor bytes meta.desc_size i) else None) ≡ Some d
        → descriptor bytes meta.desc_size i ≡ d
    by_test true e = cc
    by_test false e = absurd cc

-- One descriptor more was seen.
pub one_more : (bytes : List ℕ) (meta : MemoryMapMeta) (i : ℕ) (v : UefiDescriptor) → i < count_of meta
    → entry_of bytes meta i ≡ Some (descriptor_of v)
    → (views more : List UefiDescriptor) → more ≡ views ++ v ∷ [] → Seen bytes meta i views
    → Seen bytes meta (i + 1) more
one_more bytes meta i v lt is views more added seen =
    let rest = descriptors_from bytes meta.desc_size (i + 1) (count_of meta - (i + 1)) in
    let left : count_of meta - i ≡ suc (count_of meta - (i + 1)) = omega (arith, lt) in
    record {
      within = omega (arith, lt);
      all =
          seen.all ∙ ap (λ (n : ℕ). map descriptor_of views ++ descriptors_from bytes meta.desc_size i n) left
          ∙ ap (λ (d : MemoryDescriptor). map descriptor_of views ++ d ∷ rest)
          (entry_is bytes meta i (descriptor_of v) is)
          ∙ sym (append_assoc (map descriptor_of views) (descriptor_of v ∷ []) rest)
          ∙ ap (λ (t : List MemoryDescriptor). t ++ rest)
          (sym (ap (map descriptor_of) added ∙ map-append descriptor_of views (v ∷ [])));
    }

-- At the count, all were seen.
pub all_seen : (bytes : List ℕ) (meta : MemoryMapMeta) (i : ℕ) (views : List UefiDescriptor)
    → (i < count_of meta → ⊥) → Seen bytes meta i views
    → map descriptor_of views ≡ entries_of bytes meta
all_seen bytes meta i views none_there seen =
    let none : count_of meta - i ≡ 0 = omega (arith, none_there) in
    sym (seen.all ∙ ap (λ (n : ℕ). map descriptor_of views ++ descriptors_from bytes meta.desc_size i n) none
    ∙ append-nil (map descriptor_of views))
