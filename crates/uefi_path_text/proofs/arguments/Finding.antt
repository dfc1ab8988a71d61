-- The first element that passes a test, in a loop.
use Rattle.std.proofs.Common.{◌≡◌, ◌≤◌, ◌<◌, ◌+◌, ℕ, Bool, true, false, cond, List, [], ◌∷◌, length, get_or, map, take, refl, arith, zero, suc, None, Some}
use Rattle.std.specs.List.{find}
use Rattle.std.specs.Borrow.{Bor}
use Rattle.std.specs.Str.{bytes_eq}
use Rattle.uefi_path_text.specs.declared.form.words.Words.{Words}
use Rattle.uefi_path_text.specs.form.Words.{words}
use Rattle.uefi_path_text.specs.private.WordViews.{word_view}
use Rattle.uefi_path_text.specs.parse.Values.{word_number}
use Rattle.std.specs.Ordering.{ord_max, nat_cmp}
use Rattle.std.proofs.Common.{inl, inr, ltb}
use Rattle.std.proofs.lemmas.Bool.{cases_Bool, cases_lt, lt-ltb}
use Rattle.std.proofs.lemmas.Bool.Decides.{nat_tests}
use Rattle.std.proofs.lemmas.List.{take-map, get_or-map, length-map, map_more}
use Rattle.std.proofs.lemmas.List.Folds.{find-append}

-- The first element that passes is the one after those that don't.
pub find-at : {X : Type 0} (p : X → Bool) (xs : List X) (i : ℕ) (d : X) → i < length xs → find p (take i xs) ≡ None → p (get_or xs i d) ≡ true → find p xs ≡ Some (get_or xs i d)
find-at p [] i d within none passes = absurd (omega arith)
find-at p (x ∷ xs) zero d within none passes = rw passes refl
find-at p (x ∷ xs) (suc i) d within none passes =
    elim (cases_Bool (p x)) as (λ _. find p (x ∷ xs) ≡ Some (get_or xs i d)) [
      | inl first ↦ let no : cond true (Some x) (find p (take i xs)) ≡ None = rw first at none in absurd (cc)
      | inr first ↦ let rest : cond false (Some x) (find p (take i xs)) ≡ None = rw first at none in rw first (find-at p xs i d (omega arith) rest passes)
    ]

-- The number of the word that is the text, after others that aren't.
pub word_number_at : (vocabulary : Words) (text : List ℕ) (items : List (Bor (List ℕ) × ℕ)) (i : ℕ) (d : Bor (List ℕ) × ℕ) → map word_view items ≡ words vocabulary → i < length items → find (λ word. bytes_eq word.0 text) (map word_view (take i items)) ≡ None → bytes_eq (get_or items i d).0.now text ≡ true → word_number vocabulary text ≡ Some (get_or items i d).1
word_number_at vocabulary text items i d list within none same =
    let there : get_or (map word_view items) i (word_view d) ≡ word_view (get_or items i d) = get_or-map word_view items i d (word_view d) within in
    let before : find (λ word. bytes_eq word.0 text) (take i (map word_view items)) ≡ None = rw (take-map word_view i items) none in
    let passes : bytes_eq (get_or (map word_view items) i (word_view d)).0 text ≡ true = rw there same in
    let found : find (λ word. bytes_eq word.0 text) (map word_view items) ≡ Some (word_view (get_or items i d)) =
    rw there at (find-at (λ (word : List ℕ × ℕ). bytes_eq word.0 text) (map word_view items) i (word_view d) (omega (arith, length-map items word_view)) before passes) in
    rw (← list, found) refl

-- One more word isn't the text.
pub no_word_more : (text : List ℕ) (items : List (Bor (List ℕ) × ℕ)) (i : ℕ) (d : Bor (List ℕ) × ℕ) → i < length items → find (λ word. bytes_eq word.0 text) (map word_view (take i items)) ≡ None → bytes_eq (get_or items i d).0.now text ≡ false → find (λ word. bytes_eq word.0 text) (map word_view (take (i + 1) items)) ≡ None
no_word_more text items i d within none other =
    rw (map_more word_view items i d within, find-append (λ (word : List ℕ × ℕ). bytes_eq word.0 text) (map word_view (take i items)) (word_view (get_or items i d) ∷ []), none, other) refl

-- The greater of two numbers is within a limit of both.
pub within_max : (a b limit : ℕ) → a ≤ limit → b ≤ limit → ord_max nat_cmp a b ≤ limit
within_max a b limit first second =
    elim (cases_lt b a) as (λ _. ord_max nat_cmp a b ≤ limit) [
      | inl less ↦ let e : ltb b a ≡ true = lt-ltb b a less in rw e first
      | inr more ↦ grind (arith, nat_tests)
    ]
