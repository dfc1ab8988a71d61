-- Walks over items one after another.
use Rattle.std.proofs.Common.{◌≡◌, ℕ, List, [], ◌∷◌, ◌++◌, map, drop, refl, sym, ap, subst, ◌∙◌}
use Rattle.std.proofs.Common.{append_assoc, append-nil}
use Rattle.std.specs.List.{AllByRecursion, concat, flat_map}
use Rattle.std.proofs.lemmas.Grind.{flat_map-append}
use Rattle.std.proofs.lemmas.List.{map-append}
use Rattle.uefi_c.specs.Cursor.{Stands}
use Rattle.uefi_c.proofs.Cursors.{after}

-- The items up to the offset, of which each is seen as a view.
pub record Passed {V A : Type 0} (seen : V → A) (Is : A → Type 0) (encoding : A → List ℕ) (bytes : List ℕ) (offset : ℕ)
    (views : List V) : Type 0 where
  pub each : AllByRecursion Is (map seen views)
  pub split : bytes ≡ flat_map encoding (map seen views) ++ drop offset bytes

pub none_yet : {V A : Type 0} (seen : V → A) (Is : A → Type 0) (encoding : A → List ℕ) (bytes : List ℕ)
    → Passed seen Is encoding bytes 0 []
none_yet seen Is encoding bytes = record { each = tt; split = refl }

All-push : {A : Type 0} (Is : A → Type 0) (xs : List A) (x : A) → AllByRecursion Is xs → Is x → AllByRecursion Is (xs ++ x ∷ [])
All-push Is [] x each is = (is, tt)
All-push Is (y ∷ xs) x each is = (each.0, All-push Is xs x each.1 is)

-- One more was passed.
pub one_more : {V A : Type 0} (seen : V → A) (Is : A → Type 0) (encoding : A → List ℕ) (bytes : List ℕ) (start end : ℕ)
    (view : V) → Is (seen view) → Stands (encoding (seen view)) bytes start end → (views more : List V)
    → more ≡ views ++ view ∷ [] → Passed seen Is encoding bytes start views → Passed seen Is encoding bytes end more
one_more {V} {A} seen Is encoding bytes start end view is stands views more added passed =
    let items : map seen more ≡ map seen views ++ seen view ∷ [] =
    ap (map seen) added ∙ map-append seen views (view ∷ []) in
    let left : drop start bytes ≡ encoding (seen view) ++ drop end bytes =
    stands.begins.1 ∙ ap (λ r. encoding (seen view) ++ r) (sym (after (encoding (seen view)) bytes start end stands)) in
    let joined : flat_map encoding (map seen more) ≡ flat_map encoding (map seen views) ++ encoding (seen view) =
    ap (flat_map encoding) items ∙ flat_map-append encoding (map seen views) (seen view ∷ [])
    ∙ ap (λ e. flat_map encoding (map seen views) ++ e) (append-nil (encoding (seen view))) in
    record {
      each = subst (λ (xs : List A). AllByRecursion Is xs) (sym items) (All-push Is (map seen views) (seen view) passed.each is);
      split = passed.split ∙ ap (λ r. flat_map encoding (map seen views) ++ r) left
          ∙ sym (append_assoc (flat_map encoding (map seen views)) (encoding (seen view)) (drop end bytes))
          ∙ ap (λ j. j ++ drop end bytes) (sym joined);
    }

-- Items and their encodings.
pub concat_map : {A : Type 0} (encoding : A → List ℕ) (xs : List A) → concat (map encoding xs) ≡ flat_map encoding xs
concat_map encoding [] = refl
concat_map encoding (x ∷ xs) = ap (λ r. encoding x ++ r) (concat_map encoding xs)
