-- What is shown of some arguments.
use Rattle.std.proofs.Common.{◌≡◌, ℕ, zero, suc, ◌+◌, ◌-◌, List, [], ◌∷◌, ◌++◌, codes, take, drop, map, true, refl, arith, subst, ap, ◌∙◌, sym}
use Rattle.std.proofs.lemmas.Bool.{and_parts, and_from}
use Rattle.std.specs.List.{take-map, drop-map}
use Rattle.uefi_path_text.specs.form.NodeForm.{Parameter, Part}
use Rattle.uefi_path_text.specs.write.Forms.{all_shown, marked, texts_from}
use Rattle.uefi_path_text.specs.write.Fields.{values_from, value_size}
use Rattle.uefi_path_text.specs.write.Partial.{partial_value, partial_from}
use Rattle.uefi_path_text.specs.write.Values.{value_text}
use Rattle.uefi_path_text.specs.declared.form.argument.Argument.{Argument}

shown_drop : (ps : List Parameter) (parts : List Part) (d : List ℕ) (more : List Parameter) (k first : ℕ)
    → all_shown more (values_from ps parts more k d) ≡ true
    → all_shown (drop first more) (values_from ps parts (drop first more) (k + first) d) ≡ true
shown_drop ps parts d more k zero shown =
    subst (λ n. all_shown more (values_from ps parts more n d) ≡ true) (omega arith) shown
shown_drop ps parts d [] k (suc first) shown = refl
shown_drop ps parts d (p ∷ more) k (suc first) shown =
    subst (λ n. all_shown (drop first more) (values_from ps parts (drop first more) n d) ≡ true) (omega arith)
    (shown_drop ps parts d more (suc k) first (and_parts _ _ shown).1)

shown_take : (ps : List Parameter) (parts : List Part) (d : List ℕ) (more : List Parameter) (k count : ℕ)
    → all_shown more (values_from ps parts more k d) ≡ true
    → all_shown (take count more) (values_from ps parts (take count more) k d) ≡ true
shown_take ps parts d more k zero shown = refl
shown_take ps parts d [] k (suc count) shown = refl
shown_take ps parts d (p ∷ more) k (suc count) shown =
    let both = and_parts _ _ shown in and_from _ _ both.0 (shown_take ps parts d more (suc k) count both.1)

pub shown_some : (ps : List Parameter) (parts : List Part) (d : List ℕ) (first count : ℕ)
    → all_shown ps (values_from ps parts ps 0 d) ≡ true
    → all_shown (take count (drop first ps)) (values_from ps parts (take count (drop first ps)) first d) ≡ true
shown_some ps parts d first count shown =
    shown_take ps parts d (drop first ps) first count
    (subst (λ n. all_shown (drop first ps) (values_from ps parts (drop first ps) n d) ≡ true) (omega arith)
    (shown_drop ps parts d ps 0 first shown))

pub part_view : {A : Type 0} (view : A → Parameter) (all rest shown : List A) (first count : ℕ) → rest ≡ drop first all
    → shown ≡ take count rest → map view shown ≡ take count (drop first (map view all))
part_view view all rest shown first count is_rest is =
    ap (map view) (is ∙ ap (take count) is_rest)
    ∙ sym (ap (take count) (drop-map view first all) ∙ take-map view count (drop first all))

pub texts_more : (kind : Argument) (count : ℕ) (rest : List ℕ) → (count ≡ 0 → ⊥)
    → texts_from kind count rest
    ≡ value_text kind (take (value_size kind rest) rest) ∷ texts_from kind (count - 1) (drop (value_size kind rest) rest)
texts_more kind zero rest some = absurd (some refl)
texts_more kind (suc count) rest some =
    ap (λ n. value_text kind (take (value_size kind rest) rest) ∷ texts_from kind n (drop (value_size kind rest) rest)) (omega arith)

pub values_marked : (kind : Argument) (count : ℕ) (rest mark front after : List ℕ) (size : ℕ) → (count ≡ 0 → ⊥)
    → size ≡ value_size kind rest → front ≡ take size rest → after ≡ drop size rest
    → marked mark (texts_from kind count rest)
    ≡ mark ++ (value_text kind front ++ marked (codes ",") (texts_from kind (count - 1) after))
values_marked kind count rest mark front after size some is is_front is_after =
    ap (marked mark) (texts_more kind count rest some)
    ∙ (λ i. mark ++ (value_text kind (sym (is_front ∙ ap (λ n. take n rest) is) i)
    ++ marked (codes ",") (texts_from kind (count - 1) (sym (is_after ∙ ap (λ n. drop n rest) is) i))))

-- The same of what arguments have of them.
partial_more : (kind : Argument) (count : ℕ) (rest : List ℕ) → (count ≡ 0 → ⊥)
    → partial_from kind count rest
    ≡ partial_value kind (take (value_size kind rest) rest) ∷ partial_from kind (count - 1) (drop (value_size kind rest) rest)
partial_more kind zero rest some = absurd (some refl)
partial_more kind (suc count) rest some =
    ap (λ n. partial_value kind (take (value_size kind rest) rest) ∷ partial_from kind n (drop (value_size kind rest) rest)) (omega arith)

pub partial_marked : (kind : Argument) (count : ℕ) (rest mark front after : List ℕ) (size : ℕ) → (count ≡ 0 → ⊥)
    → size ≡ value_size kind rest → front ≡ take size rest → after ≡ drop size rest
    → marked mark (partial_from kind count rest)
    ≡ mark ++ (partial_value kind front ++ marked (codes ",") (partial_from kind (count - 1) after))
partial_marked kind count rest mark front after size some is is_front is_after =
    ap (marked mark) (partial_more kind count rest some)
    ∙ (λ i. mark ++ (partial_value kind (sym (is_front ∙ ap (λ n. take n rest) is) i)
    ++ marked (codes ",") (partial_from kind (count - 1) (sym (is_after ∙ ap (λ n. drop n rest) is) i))))
