-- Descriptors in the order of their addresses.
use Rattle.std.proofs.Common.{◌≡◌, ℕ, zero, suc, ◌+◌, ◌≤◌, ◌<◌, ◌↔◌, Bool, true, false, List, map, length, get_or, sym, ◌∙◌}
use Rattle.std.proofs.Common.{ap, arith, refl}
use Rattle.std.specs.Prelude.{IsTrue, Some}
use Rattle.std.specs.Bool.{OnTrue}
use Rattle.std.specs.Iterator.{YieldsFirst}
use Rattle.std.specs.Iterator.Runs.{Run}
use Rattle.std.specs.Iterator.Order.{IsSortedAnswer}
use Rattle.std.specs.Ordering.{nat_cmp, partial_le}
use Rattle.std.proofs.iter.Rest.{run_of_first}
use Rattle.std.proofs.lemmas.Bool.Decides.{nat_tests}
use Rattle.std.proofs.lemmas.List.{length-map, get_or-map}
use Rattle.uefi_map.specs.declared.memory.descriptor.MemoryDescriptor.{MemoryDescriptor}
use Rattle.uefi_map.specs.declared.memory.meta.MemoryMapMeta.{MemoryMapMeta}
use Rattle.uefi_map.specs.memory.Descriptor.{descriptor, zero_descriptor}
use Rattle.uefi_map.specs.memory.Map.{AreSorted, count_of, descriptors_from, entries_of}
use Rattle.uefi_map.specs.memory.Views.{entries_left}
use Rattle.uefi_map.proofs.memory.Strides.{count_from}

-- The descriptor at an index of some descriptors.
at_from : (bytes : List ℕ) (stride i count k j : ℕ) (d : MemoryDescriptor) → k < count → i + k ≡ j
    → get_or (descriptors_from bytes stride i count) k d ≡ descriptor bytes stride j
at_from bytes stride i zero k j d within at = absurd (omega (arith, within))
at_from bytes stride i (suc count) zero j d within at = ap (descriptor bytes stride) (omega (arith, at))
at_from bytes stride i (suc count) (suc k) j d within at =
    at_from bytes stride (i + 1) count k j d (omega (arith, within)) (omega (arith, at))

is_at_most : (x y : ℕ) → partial_le (λ x y. Some (nat_cmp x y)) x y ≡ true → x ≤ y
is_at_most x y tested = grind (arith, nat_tests)

is_above : (x y : ℕ) → partial_le (λ x y. Some (nat_cmp x y)) x y ≡ false → y < x
is_above x y tested = grind (arith, nat_tests)

module _ (bytes : List ℕ) (meta : MemoryMapMeta) (p : Run (YieldsFirst entries_left))
    (from : entries_left p.from ≡ entries_of bytes meta) where
  abbrev start : ℕ → ℕ
  start i = (descriptor bytes meta.desc_size i).phys_start

  abbrev starts : List ℕ
  starts = map (λ d. d.phys_start) p.items

  counted : length (entries_left p.from) ≡ count_of meta
  counted = ap length from ∙ count_from bytes meta.desc_size 0 (count_of meta)

  -- The items of a run from there are the first descriptors.
  start_at : (k : ℕ) → k < p.len → get_or starts k 0 ≡ start k
  start_at k within =
      let are = (run_of_first entries_left p).1 in
      let seen : Some (get_or p.items k zero_descriptor) ≡ Some (get_or (entries_left p.from) k zero_descriptor) =
      sym (p.reads k zero_descriptor within) ∙ are.2 k zero_descriptor within in
      let item : get_or p.items k zero_descriptor ≡ get_or (entries_left p.from) k zero_descriptor = cc in
      let entry : get_or (entries_left p.from) k zero_descriptor ≡ descriptor bytes meta.desc_size k =
      ap (λ ds. get_or ds k zero_descriptor) from ∙ at_from bytes meta.desc_size 0 (count_of meta) k k zero_descriptor
      (omega (arith, are.0, counted, within)) (omega arith) in
      get_or-map (λ d. d.phys_start) p.items k zero_descriptor 0 (omega (arith, within, p.long))
      ∙ ap (λ d. d.phys_start) (item ∙ entry)

  -- What a test of the order returns over them says whether the map is sorted.
  pub sorted_run : (r : Bool) → OnTrue r (IsTrue p.whole)
      → IsSortedAnswer (partial_le (λ x y. Some (nat_cmp x y))) starts r → IsTrue r ↔ AreSorted bytes meta
  sorted_run true whole answer =
      let are = (run_of_first entries_left p).1 in
      let all : p.len ≡ count_of meta = are.1 whole ∙ counted in (
        λ so. λ i within.
            let one = start_at i (omega (arith, all, within)) in
            let next = start_at (i + 1) (omega (arith, all, within)) in
            let tested = answer.0 i 0 (omega (arith, length-map p.items (λ d. d.phys_start), p.long, all, within)) in
            omega (arith, one, next, is_at_most (get_or starts i 0) (get_or starts (i + 1) 0) tested),
        λ sorted. refl,
      )
  sorted_run false whole answer =
      let are = (run_of_first entries_left p).1 in
      let falls = answer.0 in
      let within : falls.0 + 1 < p.len = omega (arith, falls.1, length-map p.items (λ d. d.phys_start), p.long) in
      let one = start_at falls.0 (omega (arith, within)) in
      let next = start_at (falls.0 + 1) within in
      let above = is_above (get_or starts falls.0 0) (get_or starts (falls.0 + 1) 0) (falls.2 0) in (
        λ so. let no : false ≡ true = so in cc,
        λ sorted. let rises = sorted falls.0 (omega (arith, are.0, counted, within)) in absurd (omega arith),
      )
