-- The selections of a quote, one after another.
use Rattle.std.proofs.Common.{◌≡◌, ℕ, ◌+◌, ◌<◌, ◌≤◌, ◌⊎◌, inl, inr, List, [], ◌∷◌, ◌++◌, length, map, take, get_or, Some, None, refl, sym, ap, ◌∙◌}
use Rattle.std.specs.Prelude.{◌≢◌, slice_get}
use Rattle.std.specs.Option.{option_map}
use Rattle.std.proofs.lemmas.Bool.{ne_eqb}
use Rattle.std.proofs.lemmas.List.{map-append, take_all, take_more}
use Rattle.std.proofs.lemmas.Option.{slice_get_cases}
use Rattle.tpm_quote.specs.PcrSelection.{PcrSelection}
use Rattle.uefi_c.specs.EventData.{given}
use Rattle.uefi_c.specs.Status.{ok}
use Rattle.uefi_c.specs.Quote.{selection_given, selection_seen}
use Rattle.uefi_c.specs.declared.quote.UefiPcrSelection.{UefiPcrSelection}

some_is : (one other : ℕ × ℕ) → Some one ≡ Some other → one ≡ other
some_is one other e = cc

-- A call that gave none.
pub given_none : (status : ℕ) (found : ℕ × ℕ) → status ≢ ok → given status found ≡ None
given_none status found other = simp (ne_eqb status ok other) refl

module _ (selections : List PcrSelection) (index : ℕ) where
  abbrev Cases : Type 0
  Cases = ((x : PcrSelection) × (index < length selections) × (slice_get selections index ≡ Some x) × (get_or selections index x ≡ x))
      ⊎ ((length selections ≤ index) × (slice_get selections index ≡ None))

  pub one_more : (views more : List UefiPcrSelection) (view : UefiPcrSelection) → more ≡ views ++ view ∷ []
      → Some (selection_seen view) ≡ option_map selection_given (slice_get selections index)
      → map selection_seen views ≡ map selection_given (take index selections)
      → map selection_seen more ≡ map selection_given (take (index + 1) selections)
  one_more views more view added is so_far = by_cases (slice_get_cases selections index).1
    where
      by_cases : Cases → map selection_seen more ≡ map selection_given (take (index + 1) selections)
      by_cases (inl there) =
          let same : Some (selection_seen view) ≡ Some (selection_given there.0) =
          is ∙ ap (option_map selection_given) there.2 in
          ap (map selection_seen) added ∙ map-append selection_seen views (view ∷ [])
          ∙ ap (λ first. first ++ selection_seen view ∷ []) so_far
          ∙ ap (λ last. map selection_given (take index selections) ++ last ∷ []) (some_is _ _ same)
          ∙ sym (map-append selection_given (take index selections) (there.0 ∷ []))
          ∙ ap (map selection_given) (sym (take_more selections index there.0 there.1
          ∙ ap (λ it. take index selections ++ it ∷ []) there.3))
      by_cases (inr past) = let same : Some (selection_seen view) ≡ None = is ∙ ap (option_map selection_given) past.1 in absurd cc

  pub all_seen : (views : List UefiPcrSelection) → None ≡ option_map selection_given (slice_get selections index)
      → map selection_seen views ≡ map selection_given (take index selections)
      → map selection_seen views ≡ map selection_given selections
  all_seen views none so_far = by_cases (slice_get_cases selections index).1
    where
      by_cases : Cases → map selection_seen views ≡ map selection_given selections
      by_cases (inl there) =
          let same : None ≡ Some (selection_given there.0) = none ∙ ap (option_map selection_given) there.2 in absurd cc
      by_cases (inr past) = so_far ∙ ap (map selection_given) (take_all index selections past.0)
