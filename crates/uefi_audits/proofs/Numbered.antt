-- What numbered items give, one after another.
use Rattle.std.proofs.Common.{◌≡◌, ◌∙◌, ℕ, suc, ◌+◌, ◌<◌, ◌≤◌, List, [], ◌∷◌, ◌++◌, length, map, drop, drop-cons, get_or}
use Rattle.std.proofs.Common.{ap, sym, append_assoc, append-nil, arith}
use Rattle.std.proofs.Math.ListN.{drop_of_length-le}
use Rattle.std.proofs.lemmas.List.{get_or-map, length-map}
use Rattle.uefi_audits.specs.Numbered.{numbered}

-- What the next item gives, and those that follow.
next_text : {A B : Type 0} (text : ℕ → A → List B) (all : List A) (number : ℕ) (item : A) → number < length all
    → numbered text number (drop number all)
    ≡ text number (get_or all number item) ++ numbered text (number + 1) (drop (number + 1) all)
unfolding numbered
next_text text all number item within =
    let after : suc number ≡ number + 1 = omega arith in
    ap (numbered text number) (drop-cons all number item within)
    ∙ ap (λ n. text number (get_or all number item) ++ numbered text (number + 1) (drop n all)) after

-- What is there so far grows by what the next item gives, as `found` has it.
pub text_appended : {A B C : Type 0} (text : ℕ → B → List C) (view : A → B) (found : List A) (all : List B) (number : ℕ)
    (item : A) (old now next : List C) → map view found ≡ all → number < length found → item ≡ get_or found number item
    → now ++ numbered text number (drop number all) ≡ old → next ≡ now ++ text number (view item)
    → next ++ numbered text (number + 1) (drop (number + 1) all) ≡ old
text_appended {C = C} text view found all number item old now next views within is before more =
    let rest : List C = numbered text (number + 1) (drop (number + 1) all) in
    let size : length found ≡ length all = sym (length-map found view) ∙ ap length views in
    let same : get_or all number (view item) ≡ view item =
    ap (λ xs. get_or xs number (view item)) (sym views) ∙ get_or-map view found number item (view item) within
    ∙ ap view (sym is) in
    ap (λ t. t ++ rest) (more ∙ ap (λ it. now ++ text number it) (sym same))
    ∙ append_assoc now (text number (get_or all number (view item))) rest
    ∙ ap (λ t. now ++ t) (sym (next_text text all number (view item) (omega (arith, within, size)))) ∙ before

-- After the last one nothing is left.
pub all_appended : {A B C : Type 0} (text : ℕ → B → List C) (view : A → B) (found : List A) (all : List B) (number : ℕ)
    (old now : List C) → map view found ≡ all → length found ≤ number
    → now ++ numbered text number (drop number all) ≡ old → now ≡ old
unfolding numbered
all_appended text view found all number old now views ended before =
    let size : length found ≡ length all = sym (length-map found view) ∙ ap length views in
    let none : drop number all ≡ [] = drop_of_length-le all {i = number} (omega (arith, ended, size)) in
    sym (append-nil now) ∙ ap (λ rest. now ++ numbered text number rest) (sym none) ∙ before

-- The same for an iterator, which gives one item after another.
pub item_appended : {A B : Type 0} (text : ℕ → A → List B) (item : A) (left rest : List A) (number : ℕ)
    (old now next : List B) → left ≡ item ∷ rest → now ++ numbered text number left ≡ old
    → next ≡ now ++ text number item → next ++ numbered text (number + 1) rest ≡ old
unfolding numbered
item_appended text item left rest number old now next is before more =
    ap (λ t. t ++ numbered text (number + 1) rest) more ∙ append_assoc now (text number item) _
    ∙ ap (λ items. now ++ numbered text number items) (sym is) ∙ before

pub items_appended : {A B : Type 0} (text : ℕ → A → List B) (left : List A) (number : ℕ) (old now : List B)
    → left ≡ [] → now ++ numbered text number left ≡ old → now ≡ old
unfolding numbered
items_appended text left number old now none before =
    sym (append-nil now) ∙ ap (λ items. now ++ numbered text number items) (sym none) ∙ before
