-- The first pair of events whose order is another.
use Rattle.std.proofs.Common.{◌≡◌, ◌∙◌, ℕ, ◌+◌, ◌<◌, ◌≤◌, List, arith, ap, inl, inr, get_or, length, map, refl, sym}
use Rattle.std.specs.Prelude.{◌⊎◌, None, Some, option_map, slice_get}
use Rattle.std.proofs.lemmas.Bool.{cases_lt}
use Rattle.std.proofs.lemmas.Option.{slice_get-map, slice_get_past, slice_get_read}
use Rattle.uefi_audits.specs.declared.diff.changed.EventPair.{EventPair}
use Rattle.uefi_audits.specs.diff.Differences.{Change, IsFirstMoved, IsMovedAt}
use Rattle.uefi_audits.specs.private.diff.Ranks.{pair_of}

-- A pair so far has this index in the new log, or it is 0.
abbrev HasIndex : List Change → ℕ → ℕ → Type 0
HasIndex pairs count index =
    (index ≡ 0) ⊎ ((place : ℕ) × (pair : Change) × place < count × (slice_get pairs place ≡ Some pair) × (pair.new.index ≡ index))

-- The first pairs ascend up to this index.
pub record Ascend (pairs : List Change) (count index : ℕ) : Type 0 where
  pub most : (at : ℕ) (pair : Change) → at < count → slice_get pairs at ≡ Some pair → pair.new.index ≤ index
  pub none : (at : ℕ) (pair : Change) → at < count → IsMovedAt pairs at pair → ⊥
  pub last : HasIndex pairs count index

pub none_yet : (pairs : List Change) → Ascend pairs 0 0
none_yet pairs = record {
  most = λ at pair within here. absurd (omega (arith, within));
  none = λ at pair within moved. absurd (omega (arith, within));
  last = inl refl;
}

-- The pair at a place of a slice.
pub pair_at : (all : List EventPair) (at : ℕ) (item : EventPair) → at < length all → item ≡ get_or all at item
    → slice_get (map pair_of all) at ≡ Some (pair_of item)
pair_at all at item within is =
    slice_get-map pair_of all at ∙ ap (option_map pair_of) (slice_get_read all (length all) at item refl within is)

one_pair : (pairs : List Change) (at : ℕ) (one other : Change) → slice_get pairs at ≡ Some one → slice_get pairs at ≡ Some other
    → one ≡ other
one_pair pairs at one other here there = let same : Some one ≡ Some other = sym here ∙ there in cc

-- One more that ascends.
pub one_more : (pairs : List Change) (count index : ℕ) (pair : Change) → slice_get pairs count ≡ Some pair
    → index ≤ pair.new.index → Ascend pairs count index → Ascend pairs (count + 1) pair.new.index
one_more pairs count index pair here ascends before = record {
  most = λ at other within there. elim (cases_lt at count) [
    | inl less ↦ let most = before.most at other less there in omega (arith, most, ascends)
    | inr past ↦ let same : at ≡ count = omega (arith, within, past) in
        let it = one_pair pairs count other pair (ap (slice_get pairs) (sym same) ∙ there) here in
        omega (arith, ap (λ (p : Change). p.new.index) it)
  ];
  none = λ at other within moved. elim (cases_lt at count) [
    | inl less ↦ before.none at other less moved
    | inr past ↦ let same : at ≡ count = omega (arith, within, past) in
        let it = one_pair pairs count other pair (ap (slice_get pairs) (sym same) ∙ moved.here) here in
        let most = before.most moved.place moved.earlier (omega (arith, moved.within, same)) moved.there in
        absurd (omega (arith, most, ascends, moved.before, ap (λ (p : Change). p.new.index) it))
  ];
  last = inr (count, pair, omega arith, here, refl);
}

-- One that doesn't is the first.
pub first_is : (pairs : List Change) (count index : ℕ) (pair : Change) → slice_get pairs count ≡ Some pair
    → pair.new.index < index → Ascend pairs count index → IsFirstMoved pairs (Some pair)
first_is pairs count index pair here less before =
    elim before.last [
      | inl none ↦ absurd (omega (arith, less, none))
      | inr it ↦ (
        count,
        record {
          here = here;
          earlier = it.1;
          place = it.0;
          within = it.2;
          there = it.3;
          before = omega (arith, less, it.4);
        },
        λ earlier other sooner moved. before.none earlier other sooner moved,
      )
    ]

-- All ascend.
pub none_moved : (pairs : List Change) (count index : ℕ) → length pairs ≤ count → Ascend pairs count index
    → IsFirstMoved pairs None
none_moved pairs count index past before = λ at pair moved.
    elim (cases_lt at count) [
      | inl less ↦ before.none at pair less moved
      | inr most ↦ let missing = slice_get_past pairs at (omega (arith, past, most)) in
          let got : Some pair ≡ None = sym moved.here ∙ missing in cc
    ]
