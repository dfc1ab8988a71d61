-- An event has at most one counterpart.
use Rattle.std.proofs.Common.{◌≡◌, ◌∙◌, ℕ, zero, suc, ◌<◌, List, [], ◌∷◌, take, ap, arith, inl, inr, refl, sym}
use Rattle.std.specs.Prelude.{Bool, true, cond, Some, slice_get}
use Rattle.std.specs.List.{count_by}
use Rattle.std.proofs.lemmas.Bool.{cases_lt}
use Rattle.std.proofs.lemmas.List.Sums.{sum_by-cons}
use Rattle.uefi_audits.specs.diff.Counterparts.{AreCounterparts, Key, OneCounterpart, how_many, is_key}
use Rattle.uefi_audits.specs.diff.Numbered.{Numbered}
use Rattle.uefi_audits.proofs.diff.Orders.{key_itself}

-- More of the elements before a later place pass than before one that passes.
grows : {A : Type 0} (passes : A → Bool) (all : List A) (at later : ℕ) (item : A) → at < later → slice_get all at ≡ Some item
    → passes item ≡ true → count_by passes (take at all) < count_by passes (take later all)
grows passes [] at later item less here pass = cc
grows passes (first ∷ all) at zero item less here pass = absurd (omega (arith, less))
grows passes (first ∷ all) zero (suc later) item less here pass =
    let same : first ≡ item = cc in
    let test : passes first ≡ true = ap passes same ∙ pass in
    let one : ◌≡◌ {A = ℕ} (cond (passes first) 1 0) 1 = ap (λ t. cond t 1 0) test in
    let none : ◌≡◌ {A = ℕ} (count_by passes (take 0 (first ∷ all))) 0 = refl in
    let counted = sum_by-cons (λ x. cond (passes x) 1 0) first (take later all) in
    omega (arith, one, none, counted)
grows passes (first ∷ all) (suc at) (suc later) item less here pass =
    let more = grows passes all at later item (omega (arith, less)) here pass in
    let before = sum_by-cons (λ x. cond (passes x) 1 0) first (take at all) in
    let after = sum_by-cons (λ x. cond (passes x) 1 0) first (take later all) in
    omega (arith, more, before, after)

-- Two places with one key and one rank are one.
not_before : (key_of : Numbered → Key) (old new : List Numbered) (at place other : ℕ) → AreCounterparts key_of old at new place
    → AreCounterparts key_of old at new other → place < other → ⊥
not_before key_of old new at place other first second less =
    let one : first.one ≡ second.one = let so : Some first.one ≡ Some second.one = sym first.here ∙ second.here in cc in
    let key : key_of first.other ≡ key_of second.other = sym first.one_key ∙ ap key_of one ∙ second.one_key in
    let ranks : how_many key_of (key_of second.other) (take place new) ≡ how_many key_of (key_of second.other) (take other new) =
    ap (λ k. how_many key_of k (take place new)) (sym key) ∙ sym first.as_many
    ∙ ap (λ (o : Numbered). how_many key_of (key_of o) (take at old)) one ∙ second.as_many in
    let more = grows (λ (found : Numbered). is_key (key_of second.other) (key_of found)) new place other first.other less
    first.there (ap (is_key (key_of second.other)) key ∙ key_itself (key_of second.other)) in
    omega (arith, ranks, more)

pub one_counterpart : OneCounterpart
one_counterpart = record {
  both_ways = λ key_of old new at place are. record {
    one = are.other;
    other = are.one;
    here = are.there;
    there = are.here;
    one_key = sym are.one_key;
    as_many = sym are.as_many;
  };
  one = λ key_of old new at place other first second. elim (cases_lt place other) [
    | inl less ↦ absurd (not_before key_of old new at place other first second less)
    | inr most ↦ elim (cases_lt other place) [
      | inl less ↦ absurd (not_before key_of old new at other place second first less)
      | inr least ↦ omega (arith, most, least)
    ]
  ];
}
