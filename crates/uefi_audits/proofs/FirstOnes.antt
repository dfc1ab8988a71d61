-- What is collected of the first ones of a list.
use Rattle.std.proofs.Common.{◌≡◌, ◌∙◌, ℕ, zero, suc, ◌+◌, ◌<◌, ◌≤◌, List, [], ◌∷◌, ◌++◌, length, map, take, get_or, ap, sym, refl, append_assoc, append-nil, arith}
use Rattle.std.specs.Prelude.{Bool, true, false}
use Rattle.std.specs.List.{filter, flat_map, range_with_len}
use Rattle.std.proofs.Math.Seq.{take-suc}
use Rattle.std.proofs.lemmas.Grind.{flat_map-append}
use Rattle.std.proofs.lemmas.List.{length-map, map-append, map-id, take_all}
use Rattle.std.proofs.lemmas.List.FromFn.{map-range_with_len_more}
use Rattle.std.proofs.lemmas.List.Elements.{filter-append}

-- The first ones and one more.
one_more : {A : Type 0} (all : List A) (index : ℕ) (default : A) → index < length all
    → take (index + 1) all ≡ take index all ++ get_or all index default ∷ []
one_more all index default within =
    let next : index + 1 ≡ suc index = omega arith in
    ap (λ n. take n all) next ∙ take-suc all index default within

-- One more of those that pass.
pub one_passes : {A : Type 0} (passes : A → Bool) (all found new : List A) (index : ℕ) (default : A)
    → index < length all → found ≡ filter passes (take index all) → passes (get_or all index default) ≡ true
    → new ≡ found ++ get_or all index default ∷ [] → new ≡ filter passes (take (index + 1) all)
one_passes passes all found new index default within is passed pushed =
    pushed ∙ ap (λ it. it ++ get_or all index default ∷ []) is
    ∙ sym (ap (filter passes) (one_more all index default within)
    ∙ filter-append passes (take index all) (get_or all index default ∷ [])
    ∙ ap (λ it. filter passes (take index all) ++ it) (simp passed refl))

pub none_passes : {A : Type 0} (passes : A → Bool) (all found : List A) (index : ℕ) (default : A)
    → index < length all → found ≡ filter passes (take index all) → passes (get_or all index default) ≡ false
    → found ≡ filter passes (take (index + 1) all)
none_passes passes all found index default within is other =
    is ∙ sym (ap (filter passes) (one_more all index default within)
    ∙ filter-append passes (take index all) (get_or all index default ∷ [])
    ∙ ap (λ it. filter passes (take index all) ++ it) (simp other refl) ∙ append_none (filter passes (take index all)))
  where
    append_none : {A : Type 0} (xs : List A) → xs ++ [] ≡ xs
    append_none [] = refl
    append_none (x ∷ xs) = ap (λ it. x ∷ it) (append_none xs)

-- One more of what two functions give alike.
pub one_mapped : {A B C : Type 0} (f : A → C) (g : B → C) (all : List B) (found new : List A) (item : A)
    (index : ℕ) (default : B) → index < length all → map f found ≡ map g (take index all)
    → f item ≡ g (get_or all index default) → new ≡ found ++ item ∷ [] → map f new ≡ map g (take (index + 1) all)
one_mapped f g all found new item index default within is same pushed =
    ap (map f) pushed ∙ map-append f found (item ∷ []) ∙ ap (λ it. it ++ f item ∷ []) is
    ∙ ap (λ it. map g (take index all) ++ it ∷ []) same
    ∙ sym (ap (map g) (one_more all index default within) ∙ map-append g (take index all) (get_or all index default ∷ []))

-- All of them.
pub all_taken : {A : Type 0} (all : List A) (index : ℕ) → length all ≤ index → take index all ≡ all
all_taken all index past = take_all index all past

-- One more of what a function gives for each, joined.
pub one_joined : {A B : Type 0} (f : A → List B) (all : List A) (found new : List B) (index : ℕ) (default : A)
    → index < length all → found ≡ flat_map f (take index all) → new ≡ found ++ f (get_or all index default)
    → new ≡ flat_map f (take (index + 1) all)
one_joined f all found new index default within is more =
    more ∙ ap (λ it. it ++ f (get_or all index default)) is
    ∙ sym (ap (flat_map f) (one_more all index default within)
    ∙ flat_map-append f (take index all) (get_or all index default ∷ [])
    ∙ ap (λ it. flat_map f (take index all) ++ it) (append-nil (f (get_or all index default))))

-- One more number.
range_more : (count : ℕ) → range_with_len 0 (count + 1) ≡ range_with_len 0 count ++ count ∷ []
range_more count =
    sym (map-id (range_with_len 0 (count + 1))) ∙ map-range_with_len_more (λ number. number) 0 count count (omega arith)
    ∙ ap (λ numbers. numbers ++ count ∷ []) (map-id (range_with_len 0 count))

-- What it gives for one more number, joined.
pub one_number_joined : {A : Type 0} (f : ℕ → List A) (count : ℕ) (found new : List A)
    → found ≡ flat_map f (range_with_len 0 count) → new ≡ found ++ f count → new ≡ flat_map f (range_with_len 0 (count + 1))
one_number_joined f count found new is more =
    more ∙ ap (λ it. it ++ f count) is
    ∙ sym (ap (flat_map f) (range_more count) ∙ flat_map-append f (range_with_len 0 count) (count ∷ [])
    ∙ ap (λ it. flat_map f (range_with_len 0 count) ++ it) (append-nil (f count)))

-- What a function gives for one more number, if it passes.
passing_more : {A : Type 0} (f : ℕ → A) (passes : ℕ → Bool) (count : ℕ)
    → map f (filter passes (range_with_len 0 (count + 1)))
    ≡ map f (filter passes (range_with_len 0 count)) ++ map f (filter passes (count ∷ []))
passing_more f passes count =
    ap (λ numbers. map f (filter passes numbers)) (range_more count)
    ∙ ap (map f) (filter-append passes (range_with_len 0 count) (count ∷ []))
    ∙ map-append f (filter passes (range_with_len 0 count)) (filter passes (count ∷ []))

pub number_passes : {A : Type 0} (f : ℕ → A) (passes : ℕ → Bool) (count : ℕ) (old now new : List A)
    → now ≡ old ++ map f (filter passes (range_with_len 0 count)) → passes count ≡ true → new ≡ now ++ f count ∷ []
    → new ≡ old ++ map f (filter passes (range_with_len 0 (count + 1)))
number_passes f passes count old now new before passed pushed =
    pushed ∙ ap (λ it. it ++ f count ∷ []) before
    ∙ append_assoc old (map f (filter passes (range_with_len 0 count))) (f count ∷ [])
    ∙ sym (ap (λ it. old ++ it) (passing_more f passes count
    ∙ ap (λ it. map f (filter passes (range_with_len 0 count)) ++ it) (simp passed refl)))

pub number_left_out : {A : Type 0} (f : ℕ → A) (passes : ℕ → Bool) (count : ℕ) (old now : List A)
    → now ≡ old ++ map f (filter passes (range_with_len 0 count)) → passes count ≡ false
    → now ≡ old ++ map f (filter passes (range_with_len 0 (count + 1)))
number_left_out f passes count old now before other =
    before ∙ sym (ap (λ it. old ++ it) (passing_more f passes count
    ∙ ap (λ it. map f (filter passes (range_with_len 0 count)) ++ it) (simp other refl)
    ∙ append-nil (map f (filter passes (range_with_len 0 count)))))

-- Two lists of which functions give the same have as many elements, and give the same of each.
pub as_many : {A B C : Type 0} (f : A → C) (g : B → C) (xs : List A) (ys : List B) → map f xs ≡ map g ys → length xs ≡ length ys
as_many f g xs ys same = simp length-map at (ap length same)

pub same_at : {A B C : Type 0} (f : A → C) (g : B → C) (xs : List A) (ys : List B) (index : ℕ) (x : A) (y : B)
    → map f xs ≡ map g ys → index < length xs → f (get_or xs index x) ≡ g (get_or ys index y)
same_at f g [] ys index x y same within = absurd (omega (arith, within))
same_at f g (one ∷ xs) [] index x y same within = cc
same_at f g (one ∷ xs) (other ∷ ys) zero x y same within = cc
same_at f g (one ∷ xs) (other ∷ ys) (suc index) x y same within =
    same_at f g xs ys index x y (let rest : map f xs ≡ map g ys = cc in rest) (omega (arith, within))
