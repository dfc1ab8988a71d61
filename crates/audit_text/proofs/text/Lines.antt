-- Lines that are among others, and those that aren't.
use Rattle.std.proofs.Common.{◌≡◌, ◌∙◌, ℕ, ◌+◌, ◌<◌, List, [], ◌∷◌, ◌++◌, length, get_or, map, take, ap, append-nil, refl, sym, Bor}
use Rattle.std.specs.Prelude.{Bool, true, false, cond, not, ◌||◌}
use Rattle.std.specs.Str.{bytes_eq}
use Rattle.std.proofs.lemmas.Bool.Decides.{same_from_decides}
use Rattle.std.proofs.lemmas.List.{map-append, map_more}
use Rattle.std.proofs.lemmas.List.Elements.{filter-append}
use Rattle.std.proofs.lemmas.List.Folds.{list_any-append}
use Rattle.std.proofs.lemmas.Slice.Eq.{bytes_eq-Decides}
use Rattle.audit_text.specs.text.ChangeParts.{is_among, lines_only}

-- Which of two texts is named first doesn't matter.
flipped : (one other : List ℕ) → bytes_eq one other ≡ bytes_eq other one
flipped one other =
    let back = bytes_eq-Decides other one in
    same_from_decides (bytes_eq one other) (bytes_eq other one) (bytes_eq-Decides one other)
    ((λ so. sym (back.0 so)), (λ same. back.1 (sym same)))

either : (one other : Bool) → (one || (other || false)) ≡ cond other true one
either true true = refl
either true false = refl
either false true = refl
either false false = refl

-- One more line.
pub one_more : (lines : List (Bor (List ℕ))) (index : ℕ) (none : Bor (List ℕ)) (line : List ℕ) (had has : Bool)
    → index < length lines → has ≡ cond (bytes_eq (get_or lines index none).now line) true had
    → had ≡ is_among (map (λ it. it.now) (take index lines)) line
    → has ≡ is_among (map (λ it. it.now) (take (index + 1) lines)) line
one_more lines index none line had has within update before =
    let item = (get_or lines index none).now in
    let all = map_more (λ it. it.now) lines index none within in
    update ∙ ap (λ same. cond same true had) (flipped item line)
    ∙ ap (λ known. cond (bytes_eq line item) true known) before
    ∙ sym (either (is_among (map (λ it. it.now) (take index lines)) line) (bytes_eq line item))
    ∙ sym (list_any-append (bytes_eq line) (map (λ it. it.now) (take index lines)) (item ∷ []))
    ∙ ap (λ them. is_among them line) (sym all)

-- Those that aren't among others, after one more line.
one_kept : (others : List (List ℕ)) (line : List ℕ) (has : Bool) → has ≡ is_among others line
    → lines_only others (line ∷ []) ≡ cond has [] (line ∷ [])
one_kept others line true is = ap (λ b. cond (not b) (line ∷ []) []) (sym is)
one_kept others line false is = ap (λ b. cond (not b) (line ∷ []) []) (sym is)

pub only_more : (others : List (List ℕ)) (lines : List (Bor (List ℕ))) (index : ℕ) (none : Bor (List ℕ)) (has : Bool)
    (now next : List (List ℕ)) → index < length lines → has ≡ is_among others (get_or lines index none).now
    → now ≡ lines_only others (map (λ it. it.now) (take index lines))
    → next ≡ now ++ cond has [] ((get_or lines index none).now ∷ [])
    → next ≡ lines_only others (map (λ it. it.now) (take (index + 1) lines))
only_more others lines index none has now next within among before grown =
    let item = (get_or lines index none).now in
    let kept = λ (line : List ℕ). not (is_among others line) in
    let them = map (λ it. it.now) (take index lines) in
    grown ∙ ap (λ t. t ++ cond has [] (item ∷ [])) before
    ∙ ap (λ t. lines_only others them ++ t) (sym (one_kept others item has among))
    ∙ sym (filter-append kept them (item ∷ []))
    ∙ ap (lines_only others) (sym (map_more (λ it. it.now) lines index none within))

-- A line that is pushed, and one that isn't.
pub pushed : (only next : List (Bor (List ℕ))) (item : Bor (List ℕ)) (has : Bool) → next ≡ only ++ item ∷ [] → has ≡ false
    → map (λ it. it.now) next ≡ map (λ it. it.now) only ++ cond has [] (item.now ∷ [])
pushed only next item has grown missing =
    ap (map (λ it. it.now)) grown ∙ map-append (λ it. it.now) only (item ∷ [])
    ∙ ap (λ b. map (λ it. it.now) only ++ cond b [] (item.now ∷ [])) (sym missing)

pub not_pushed : (only next : List (Bor (List ℕ))) (item : Bor (List ℕ)) (has : Bool) → next ≡ only → has ≡ true
    → map (λ it. it.now) next ≡ map (λ it. it.now) only ++ cond has [] (item.now ∷ [])
not_pushed only next item has same there =
    ap (map (λ it. it.now)) same ∙ sym (append-nil (map (λ it. it.now) only))
    ∙ ap (λ b. map (λ it. it.now) only ++ cond b [] (item.now ∷ [])) (sym there)
