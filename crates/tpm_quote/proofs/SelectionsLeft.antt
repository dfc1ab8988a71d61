-- The selections that an iterator keeps are those that are read from its bytes.
use Rattle.std.proofs.Common.{◌≡◌, ℕ, ◌-◌, ◌<◌, List, [], ◌∷◌, length, refl, ◌∙◌, ap}
use Rattle.std.specs.Prelude.{Ok, Err, IsOk}
use Rattle.std.specs.List.{flat_map, AllByRecursion}
use Rattle.uefi_base.specs.LittleEndian.{AreBytes}
use Rattle.uefi_base.specs.Prefix.{IsPrefix}
use Rattle.tpm_quote.specs.PcrSelection.{PcrSelection, IsPcrSelection, HasSelections, selection_bytes}
use Rattle.tpm_quote.specs.private.Reading.{Split, split_selection, split_selections, selections_in}
use Rattle.tpm_quote.specs.declared.quote_error.QuoteError.{QuoteError}
use Rattle.tpm_quote.proofs.SelectionBytes.{selections_reader}
use Rattle.tpm_quote.proofs.Selections.{ok, err, first_whole, next_selection, none_left, others_whole}

-- What is read is what the bytes begin with.
has_read : (n : ℕ) (x : List ℕ) → AreBytes x → (r : Split (List PcrSelection)) → split_selections n x ≡ r → IsOk r
    → HasSelections n x
has_read n x fits (Ok p) read is = let (taken, are) = (selections_reader n).takes x p.0 p.1 fits read in record {
  selections = p.0;
  each = are.1;
  counted = are.0;
  first = (p.1, taken.parts);
}
has_read n x fits (Err e) read is = absurd cc

pub has_selections : (n : ℕ) (x : List ℕ) → AreBytes x → IsOk (split_selections n x) → HasSelections n x
has_selections n x fits is = has_read n x fits (split_selections n x) refl is

-- What the bytes begin with is what is read: the facts of `HasSelections`, one by one.
module _ (n : ℕ) (x : List ℕ) (ss : List PcrSelection) (each : AllByRecursion IsPcrSelection ss) (counted : length ss ≡ n)
    (first : IsPrefix (flat_map selection_bytes ss) x) where
  all_read : split_selections n x ≡ ok (ss, first.0)
  all_read = ap (split_selections n) first.1 ∙ (selections_reader n).again ss first.0 (counted, each)

  are_whole : IsOk (split_selections n x)
  are_whole = rw all_read refl

  pub left_in : ss ≡ selections_in n x
  unfolding selections_in
  left_in = rw (all_read, selections_in) refl

  -- The first of them, and those after it.
  pub next_left : (rest : List ℕ) (s : PcrSelection) → 0 < n → split_selection x ≡ ok (s, rest)
      → ss ≡ s ∷ selections_in (n - 1) rest
  next_left rest s positive one = left_in ∙ next_selection n x rest s positive one are_whole

  pub others_left : (rest : List ℕ) (s : PcrSelection) → 0 < n → split_selection x ≡ ok (s, rest)
      → IsOk (split_selections (n - 1) rest)
  others_left rest s positive one = others_whole n x rest s positive one are_whole

  -- Where there are some, the bytes begin with one.
  pub first_left : (e : QuoteError) → 0 < n → split_selection x ≡ err e → ⊥
  first_left e positive none = first_whole n x e positive none are_whole

  pub nothing_left : n ≡ 0 → ss ≡ []
  nothing_left none = left_in ∙ none_left n x none
