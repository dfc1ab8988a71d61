-- The parts of a text between marks.
use Rattle.std.proofs.Common.{◌≡◌, ◌<◌, ◌+◌, ℕ, Bool, true, false, ltb, eqb, cond, List, [], ◌∷◌, length, take, drop, refl, arith, suc, sym, ◌∙◌, None, Some, inl, inr}
use Rattle.std.specs.List.{position, position_or_len}
use Rattle.std.proofs.lemmas.Bool.{cases_Bool, cases_lt, lt-ltb, le-ltb, ltb-true}
use Rattle.uefi_path_text.specs.parse.Parts.{cut_at, onto_first}

-- A character goes onto the first part, whichever the parts are.
onto_first_cond : (c : ℕ) (test : Bool) (part text : List ℕ) (parts : List (List ℕ)) → onto_first c (cond test (part ∷ parts) (text ∷ [])) ≡ cond test ((c ∷ part) ∷ parts) ((c ∷ text) ∷ [])
onto_first_cond c true part text parts = refl
onto_first_cond c false part text parts = refl

-- An order stays the same for the next numbers.
ltb_suc : (a b : ℕ) → ltb (suc a) (suc b) ≡ ltb a b
ltb_suc a b =
    elim (cases_lt a b) as (λ _. ltb (suc a) (suc b) ≡ ltb a b) [
      | inl below ↦ lt-ltb (suc a) (suc b) (omega arith) ∙ sym (lt-ltb a b below)
      | inr above ↦ le-ltb (suc a) (suc b) (omega arith) ∙ sym (le-ltb a b above)
    ]

-- A text is cut at the first mark.
cut_at_first : (mark : ℕ) (text : List ℕ) (i : ℕ) → i ≡ position_or_len (λ c. eqb c mark) text → cut_at mark text ≡ cond (ltb i (length text)) (take i text ∷ cut_at mark (drop (suc i) text)) (text ∷ [])
cut_at_first mark [] i place = rw place refl
cut_at_first mark (c ∷ text) i place =
    elim (cases_Bool (eqb c mark)) as (λ _. cut_at mark (c ∷ text) ≡ cond (ltb i (suc (length text))) (take i (c ∷ text) ∷ cut_at mark (drop (suc i) (c ∷ text))) ((c ∷ text) ∷ [])) [
      | inl is ↦
          let here : i ≡ 0 = rw is at place in
          let within : ltb 0 (suc (length text)) ≡ true = lt-ltb 0 (suc (length text)) (omega arith) in
          rw (here, is, within) refl
      | inr other ↦
          let one : i ≡ 1 + position_or_len (λ c. eqb c mark) text = rw other at place in
          let next : i ≡ suc (position_or_len (λ c. eqb c mark) text) = omega (arith, one) in
          rw (next, other, ltb_suc (position_or_len (λ c. eqb c mark) text) (length text), cut_at_first mark text (position_or_len (λ c. eqb c mark) text) refl)
          (onto_first_cond c (ltb (position_or_len (λ c. eqb c mark) text) (length text)) (take (position_or_len (λ c. eqb c mark) text) text) text (cut_at mark (drop (suc (position_or_len (λ c. eqb c mark) text)) text)))
    ]

-- The cut at the place of the first mark.
pub cut_at_some : (mark : ℕ) (text : List ℕ) (i : ℕ) → Some i ≡ position (λ c. eqb c mark) text → (i < length text) × (cut_at mark text ≡ take i text ∷ cut_at mark (drop (i + 1) text))
cut_at_some mark text i first =
    elim (cases_Bool (ltb (position_or_len (λ c. eqb c mark) text) (length text))) as (λ _. (i < length text) × (cut_at mark text ≡ take i text ∷ cut_at mark (drop (i + 1) text))) [
      | inl within ↦
          let e : Some i ≡ Some (position_or_len (λ c. eqb c mark) text) = rw within at first in
          let place : position_or_len (λ c. eqb c mark) text ≡ i = cc in
          let inside : position_or_len (λ c. eqb c mark) text < length text = ltb-true (position_or_len (λ c. eqb c mark) text) (length text) within in
          let whole = cut_at_first mark text (position_or_len (λ c. eqb c mark) text) refl in
          let cut : cut_at mark text ≡ take i text ∷ cut_at mark (drop (suc i) text) = rw place at (rw within at whole) in
          let next : i + 1 ≡ suc i = omega arith in
          (omega arith, rw next cut)
      | inr past ↦ let e : Some i ≡ None = rw past at first in absurd (cc)
    ]

-- No cut where there is no mark.
pub cut_at_none : (mark : ℕ) (text : List ℕ) → None ≡ position (λ c. eqb c mark) text → cut_at mark text ≡ text ∷ []
cut_at_none mark text none =
    elim (cases_Bool (ltb (position_or_len (λ c. eqb c mark) text) (length text))) as (λ _. cut_at mark text ≡ text ∷ []) [
      | inl within ↦ let e : None ≡ Some (position_or_len (λ c. eqb c mark) text) = rw within at none in absurd (cc)
      | inr past ↦ let e = cut_at_first mark text (position_or_len (λ c. eqb c mark) text) refl in rw past at e
    ]
