-- The PCRs of a selection are those that it selects, ascending, and none of them is above 23.
use Rattle.std.proofs.Common.{◌≡◌, ℕ, zero, suc, ◌+◌, ◌/◌, ◌%◌, ◌^◌, ◌<◌, ◌≤◌, Bool, true, false, cond, List, [], ◌∷◌, length, get_or}
use Rattle.std.proofs.Common.{inl, inr, refl, sym, ◌∙◌, ap, subst, arith}
use Rattle.std.specs.Prelude.{Contains, filter}
use Rattle.std.specs.Int.{bit_at}
use Rattle.std.specs.List.Sorted.{IsStrictlyIncreasing}
use Rattle.std.proofs.Math.Nat.{zero-div}
use Rattle.std.proofs.lemmas.Bool.{cases_lt, eqb-true}
use Rattle.std.proofs.lemmas.Bool.Decides.{eqb_tells}
use Rattle.std.proofs.lemmas.List.{get_or_past}
use Rattle.std.proofs.lemmas.List.Kept.{IsStrictlyIncreasing-filter}
use Rattle.tpm_quote.specs.Laws.{FourthByteZero, HasItsPcrs, PcrsOfSelection}
use Rattle.tpm_quote.specs.PcrSelection.{PcrSelection, IsPcrSelection, SelectsAbove23, byte_of_pcr_24, is_selected, numbers}

-- The numbers ascend.
at_index : (first count k : ℕ) → k < count → get_or (numbers first count) k 0 ≡ first + k
unfolding numbers
at_index first zero k lt = absurd (omega arith)
at_index first (suc count) zero lt = omega arith
at_index first (suc count) (suc k) lt = at_index (suc first) count k (omega arith) ∙ omega arith

counted : (first count : ℕ) → length (numbers first count) ≡ count
unfolding numbers
counted first zero = refl
counted first (suc count) = ap suc (counted (suc first) count)

ascending : (first count : ℕ) → IsStrictlyIncreasing (numbers first count)
ascending first count k lt = omega (
  arith,
  at_index first count k (omega (arith, lt, counted first count)),
  at_index first count (k + 1) (omega (arith, lt, counted first count)),
)

-- What passes is in the list, and what is in the list passes.
module _ (test : ℕ → Bool) where
  abbrev kept : Bool → ℕ → List ℕ → List ℕ
  kept t x xs = cond t (x ∷ xs) xs

  still_kept : (t : Bool) (x y : ℕ) (xs : List ℕ) → Contains xs y → Contains (kept t x xs) y
  still_kept true x y xs (k, lt, is) = (suc k, omega (arith, lt), is)
  still_kept false x y xs has = has

  first_kept : (t : Bool) (x : ℕ) (xs : List ℕ) → t ≡ true → Contains (kept t x xs) x
  first_kept true x xs is = (0, omega arith, refl)
  first_kept false x xs is = absurd cc

  pub passing_contained : (first count n : ℕ) → first ≤ n → n < first + count → test n ≡ true
      → Contains (filter test (numbers first count)) n
  unfolding numbers
  passing_contained first zero n ge lt passes = absurd (omega arith)
  passing_contained first (suc count) n ge lt passes = elim (eqb_tells first n) [
    | inl same ↦ subst (λ m. Contains (kept (test first) first (filter test (numbers (suc first) count))) m) same.1
        (first_kept (test first) first (filter test (numbers (suc first) count)) (ap test same.1 ∙ passes))
    | inr other ↦ still_kept (test first) first n (filter test (numbers (suc first) count))
        (passing_contained (suc first) count n (omega (arith, ge, other.1)) (omega (arith, lt)) passes)
  ]

  kept_passes : (t : Bool) (x y : ℕ) (xs : List ℕ) → test x ≡ t → (Contains xs y → test y ≡ true) → Contains (kept t x xs) y → test y ≡ true
  kept_passes true x y xs passes others (zero, lt, is) = ap test (sym is) ∙ passes
  kept_passes true x y xs passes others (suc k, lt, is) = others (k, omega (arith, lt), is)
  kept_passes false x y xs passes others has = others has

  pub contained_passes : (xs : List ℕ) (y : ℕ) → Contains (filter test xs) y → test y ≡ true
  contained_passes [] y (k, lt, is) = absurd (omega arith)
  contained_passes (x ∷ xs) y has = kept_passes (test x) x y (filter test xs) refl (contained_passes xs y) has

-- A byte that is zero has no bit.
no_bit : (byte k : ℕ) → byte ≡ 0 → (bit_at byte k ≡ 1) → ⊥
no_bit byte k none is =
    let zero_bits : bit_at byte k ≡ 0 = rw none (rw (zero-div (2 ^ k)) refl) in
    absurd (omega (arith, zero_bits, is))

-- The byte of a PCR above 23 is zero.
byte_above : (bitmap : List ℕ) (pcr : ℕ) → length bitmap ≤ 4 → get_or bitmap 3 0 ≡ 0 → 23 < pcr → get_or bitmap (pcr / 8) 0 ≡ 0
byte_above bitmap pcr short none above = elim (eqb_tells (pcr / 8) 3) [
  | inl same ↦ ap (λ k. get_or bitmap k 0) same.1 ∙ none
  | inr other ↦ get_or_past bitmap (pcr / 8) 0 (omega (arith, short, above, other.1))
]

none_above : (s : PcrSelection) → length s.bitmap ≤ 4 → byte_of_pcr_24 s ≡ 0 → ¬ SelectsAbove23 s
none_above s short none (pcr, above, selected) =
    no_bit (get_or s.bitmap (pcr / 8) 0) (pcr % 8) (byte_above s.bitmap pcr short none above)
    (eqb-true (bit_at (get_or s.bitmap (pcr / 8) 0) (pcr % 8)) 1 selected)

-- A byte without bits is zero.
bit_is_zero : (s : PcrSelection) → ¬ SelectsAbove23 s → (k : ℕ) → k < 8 → bit_at (byte_of_pcr_24 s) k ≡ 0
bit_is_zero s none k lt = elim (eqb_tells (bit_at (byte_of_pcr_24 s) k) 1) [
  | inl set ↦
      let byte : (24 + k) / 8 ≡ 3 = omega (arith, lt) in
      let bit : (24 + k) % 8 ≡ k = omega (arith, lt) in
      absurd (none (24 + k, omega arith, rw (byte, bit) set.0))
  | inr other ↦ omega (arith, other.1)
]

byte_is_zero : (byte : ℕ) → byte < 256 → ((k : ℕ) → k < 8 → bit_at byte k ≡ 0) → byte ≡ 0
byte_is_zero byte fits bit = omega (
  arith,
  fits,
  bit 0 (omega arith),
  bit 1 (omega arith),
  bit 2 (omega arith),
  bit 3 (omega arith),
  bit 4 (omega arith),
  bit 5 (omega arith),
  bit 6 (omega arith),
  bit 7 (omega arith),
)

fourth_byte_zero : FourthByteZero
fourth_byte_zero s each short =
    (none_above s short, λ none. byte_is_zero (byte_of_pcr_24 s) (each 3) (bit_is_zero s none))

-- The law.
its_pcrs : (s : PcrSelection) → IsPcrSelection s → HasItsPcrs s
its_pcrs s is = record {
  each = λ pcr. (
    contained_passes (is_selected s) (numbers 0 24) pcr,
    λ selected. elim (cases_lt pcr 24) [
      | inl lt ↦ passing_contained (is_selected s) 0 24 pcr (omega arith) (omega (arith, lt)) selected
      | inr ge ↦ absurd (none_above s is.short is.of_pc (pcr, omega (arith, ge), selected))
    ],
  );
  ascending = IsStrictlyIncreasing-filter (is_selected s) (numbers 0 24) (ascending 0 24);
}

pub pcrs_of_selection : PcrsOfSelection
pcrs_of_selection = record { pcrs = its_pcrs; above_23 = fourth_byte_zero }
