-- The words of a block, found one after another.
use Rattle.std.proofs.Common.{◌≡◌, ℕ, ◌+◌, ◌-◌, ◌<◌, List, [], length, take, slice_set, refl, sym, ap, ◌∙◌, add-one, arith, inl, inr}
use Rattle.std.proofs.lemmas.Bool.{cases_lt, le-ltb, lt-ltb}
use Rattle.std.proofs.lemmas.List.{get_or-take, take_more_set}
use Rattle.sm3.specs.Sm3.{w, words}

-- W j reads the words before it alone.
w-take : (b ws : List ℕ) (j : ℕ) → w b (take j ws) j ≡ w b ws j
w-take b ws j = elim (cases_lt j 16) [
  | inl low ↦ rw (lt-ltb j 16 low) refl
  | inr high ↦ rw (
    le-ltb j 16 high,
    get_or-take j ws (j - 16) 0 (omega arith),
    get_or-take j ws (j - 13) 0 (omega arith),
    get_or-take j ws (j - 9) 0 (omega arith),
    get_or-take j ws (j - 6) 0 (omega arith),
    get_or-take j ws (j - 3) 0 (omega arith),
  )
      refl
]

pub words_none : (b : List ℕ) → words b 0 ≡ []
unfolding words
words_none b = refl

-- A word written after those that are found.
pub take_more_words : (b ws : List ℕ) (j x : ℕ) → take j ws ≡ words b j → j < length ws → x ≡ w b ws j
    → take (j + 1) (slice_set ws j x) ≡ words b (j + 1)
unfolding words
take_more_words b ws j x found within is =
    let last : x ≡ w b (words b j) j = is ∙ sym (w-take b ws j) ∙ ap (λ (l : List ℕ). w b l j) found in
    rw (take_more_set ws j x within, found, last, add-one j) refl
