-- Selections, read one by one.
use Rattle.std.proofs.Common.{◌≡◌, ℕ, zero, suc, ◌+◌, ◌-◌, ◌<◌, List, [], ◌∷◌, refl, ◌∙◌, ap, arith}
use Rattle.std.specs.Prelude.{Result, Ok, Err, IsOk}
use Rattle.std.specs.Result.{result_map_both, result_unwrap_or}
use Rattle.tpm_quote.specs.PcrSelection.{PcrSelection}
use Rattle.tpm_quote.specs.private.Reading.{Split, ◌>>=◌, split_selection, split_selections, after_selections, selections_in}
use Rattle.tpm_quote.specs.declared.quote_error.QuoteError.{QuoteError}

abbrev Selections : Type 0
Selections = List PcrSelection × List ℕ

abbrev pub ok : {A : Type 0} → A → Result A QuoteError
ok x = Ok x

abbrev pub err : {A : Type 0} → QuoteError → Result A QuoteError
err e = Err e

pub ok_is : {A : Type 0} (x y : A) → ok x ≡ ok y → x ≡ y
ok_is x y is = cc

-- A selection and others.
abbrev add_others : PcrSelection → Split (List PcrSelection) → Split (List PcrSelection)
add_others s others = others >>= λ more. ok (s ∷ more.0, more.1)

-- What follows a selection and others follows the others.
after_others : (s : PcrSelection) (o : Split (List PcrSelection)) → result_map_both (λ (split : Selections). split.1)
    (λ (e : QuoteError). e) (add_others s o) ≡ result_map_both (λ (split : Selections). split.1) (λ (e : QuoteError). e) o
after_others s (Ok more) = refl
after_others s (Err e) = refl

pub after_zero : (n : ℕ) (x : List ℕ) → n ≡ 0 → after_selections n x ≡ ok x
unfolding after_selections split_selections
after_zero n x none = rw none refl

-- One more selection, where i of them are behind.
pub after_more : (count i : ℕ) (x : List ℕ) → i < count → after_selections (count - i) x
    ≡ (split_selection x >>= λ rest. after_selections (count - (i + 1)) rest.1)
unfolding after_selections split_selections
after_more count i x lt = rw next (by_first (split_selection x))
  where
    next : count - i ≡ suc (count - (i + 1))
    next = omega arith

    by_first : (o : Split PcrSelection) → result_map_both (λ (split : Selections). split.1) (λ (e : QuoteError). e)
        (o >>= λ s. add_others s.0 (split_selections (count - (i + 1)) s.1))
        ≡ (o >>= λ s. result_map_both (λ (split : Selections). split.1) (λ (e : QuoteError). e)
        (split_selections (count - (i + 1)) s.1))
    by_first (Ok s) = after_others s.0 (split_selections (count - (i + 1)) s.1)
    by_first (Err e) = refl

-- Selections with bytes after them are whole, and are the selections alone.
parts : (r : Split (List PcrSelection)) (x rest : List ℕ)
    → result_map_both (λ (split : Selections). split.1) (λ (e : QuoteError). e) r ≡ ok rest
    → r ≡ ok ((result_unwrap_or r ([], x)).0, rest)
parts (Ok s) x rest is = ap (λ y. ok (s.0, y)) (ok_is s.1 rest is)
parts (Err e) x rest is = absurd cc

pub both_parts : (n : ℕ) (x rest : List ℕ) → after_selections n x ≡ ok rest
    → split_selections n x ≡ ok (selections_in n x, rest)
unfolding after_selections selections_in
both_parts n x rest is = parts (split_selections n x) x rest is

pub whole_selections : (n : ℕ) (x rest : List ℕ) → after_selections n x ≡ ok rest → IsOk (split_selections n x)
whole_selections n x rest is = rw (both_parts n x rest is) refl

-- The error of selections.
failed : (r : Split (List PcrSelection)) (e : QuoteError)
    → result_map_both (λ (split : Selections). split.1) (λ (e : QuoteError). e) r ≡ err e → r ≡ err e
failed (Ok s) e is = absurd cc
failed (Err d) e is = cc

pub no_selections : (n : ℕ) (x : List ℕ) (e : QuoteError) → after_selections n x ≡ err e → split_selections n x ≡ err e
unfolding after_selections
no_selections n x e is = failed (split_selections n x) e is

-- The first of some selections, and those after it.
others_ok : (s : PcrSelection) (o : Split (List PcrSelection)) → IsOk (add_others s o) → IsOk o
others_ok s (Ok more) is = refl
others_ok s (Err e) is = absurd cc

first_and_others : (s : PcrSelection) (o : Split (List PcrSelection)) (x y : List ℕ) → IsOk o
    → (result_unwrap_or (add_others s o) ([], x)).0 ≡ s ∷ (result_unwrap_or o ([], y)).0
first_and_others s (Ok more) x y is = refl
first_and_others s (Err e) x y is = absurd cc

pub others_whole : (n : ℕ) (x rest : List ℕ) (s : PcrSelection) → 0 < n → split_selection x ≡ ok (s, rest)
    → IsOk (split_selections n x) → IsOk (split_selections (n - 1) rest)
unfolding split_selections
others_whole zero x rest s positive first is = absurd (omega arith)
others_whole (suc n) x rest s positive first is =
    let same : suc n - 1 ≡ n = omega arith in
    rw same (others_ok s (split_selections n rest) (rw first at is))

selections_step : (n : ℕ) (x rest : List ℕ) (s : PcrSelection) → split_selection x ≡ ok (s, rest)
    → IsOk (split_selections (suc n) x) → selections_in (suc n) x ≡ s ∷ selections_in n rest
unfolding selections_in split_selections
selections_step n x rest s first is =
    rw (first, selections_in) (first_and_others s (split_selections n rest) x rest (others_ok s (split_selections n rest) (rw first at is)))

pub next_selection : (n : ℕ) (x rest : List ℕ) (s : PcrSelection) → 0 < n → split_selection x ≡ ok (s, rest)
    → IsOk (split_selections n x) → selections_in n x ≡ s ∷ selections_in (n - 1) rest
next_selection zero x rest s positive first is = absurd (omega arith)
next_selection (suc n) x rest s positive first is =
    selections_step n x rest s first is ∙ ap (λ m. s ∷ selections_in m rest) (omega arith)

-- Where there are some, the bytes begin with one.
pub first_whole : (n : ℕ) (x : List ℕ) (e : QuoteError) → 0 < n → split_selection x ≡ err e
    → IsOk (split_selections n x) → ⊥
unfolding split_selections
first_whole zero x e positive first is = absurd (omega arith)
first_whole (suc n) x e positive first is = let none : IsOk (err {A = List PcrSelection × List ℕ} e) = rw first at is in absurd cc

pub none_left : (n : ℕ) (x : List ℕ) → n ≡ 0 → selections_in n x ≡ []
unfolding selections_in split_selections
none_left n x none = rw none refl
