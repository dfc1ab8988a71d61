-- The algorithms in a table.
use Rattle.std.proofs.Common.{◌≡◌, ◌∙◌, ℕ, ◌+◌, List, [], ◌∷◌, ◌++◌, map, take, ap, subst, sym}
use Rattle.std.specs.Prelude.{Some, eqb, slice_get}
use Rattle.std.specs.Ordering.{nat_cmp}
use Rattle.std.specs.List.{Contains, dedup}
use Rattle.std.specs.List.Retain.{DiffersFromLast, IsFiltered}
use Rattle.std.specs.List.Sorted.{IsPermutation, IsSorted, IsStrictlyIncreasing}
use Rattle.std.proofs.lemmas.List.Filters.{dedup_is}
use Rattle.std.proofs.lemmas.List.Kept.{Contains-dedup_nat, Contains-from_dedup}
use Rattle.std.proofs.lemmas.List.Sorted.{Contains-permutation, IsPermutation-sym}
use Rattle.std.proofs.lemmas.List.{map-append, take_more}
use Rattle.std.proofs.lemmas.Option.{get_or_from_slice_get, slice_get_within}
use Rattle.std.proofs.lemmas.Map.Keys.{IsStrictlyIncreasing-dedup}
use Rattle.uefi_tcg.specs.v2.Event.{Table}
use Rattle.uefi_audits.specs.Algorithms.{AreAlgorithmsIn}

-- Sorted, and each once.
pub are_algorithms : (table : Table) (algorithms sorted kept : List ℕ) → algorithms ≡ map (λ row. row.0) table
    → IsPermutation algorithms sorted → IsSorted nat_cmp sorted → IsFiltered (DiffersFromLast eqb) [] sorted kept
    → AreAlgorithmsIn table kept
are_algorithms table algorithms sorted kept is permuted in_order filtered =
    let deduped : kept ≡ dedup eqb sorted = dedup_is eqb sorted kept filtered in record {
      ascending = subst IsStrictlyIncreasing (sym deduped) (IsStrictlyIncreasing-dedup sorted in_order);
      same = λ algorithm. (
        λ kept_one. subst (λ all. Contains all algorithm) is (Contains-permutation sorted algorithms algorithm
            (IsPermutation-sym algorithms sorted permuted) (Contains-from_dedup eqb sorted algorithm
            (subst (λ all. Contains all algorithm) deduped kept_one))),
        λ in_table. subst (λ all. Contains all algorithm) (sym deduped) (Contains-dedup_nat sorted algorithm
            (Contains-permutation algorithms sorted algorithm permuted (subst (λ all. Contains all algorithm) (sym is) in_table))),
      );
    }

-- The algorithm of one more row.
pub one_more_row : (table : Table) (index : ℕ) (row : ℕ × ℕ) (found new : List ℕ) → slice_get table index ≡ Some row
    → found ≡ map (λ row. row.0) (take index table) → new ≡ found ++ row.0 ∷ []
    → new ≡ map (λ row. row.0) (take (index + 1) table)
one_more_row table index row found new got so_far pushed =
    let first : ℕ × ℕ → ℕ = λ row. row.0 in
    pushed ∙ ap (λ it. it ++ row.0 ∷ []) so_far
    ∙ sym (ap (map first) (take_more table index row (slice_get_within table index row got)
    ∙ ap (λ it. take index table ++ it ∷ []) (get_or_from_slice_get table index row row got))
    ∙ map-append first (take index table) (row ∷ []))
