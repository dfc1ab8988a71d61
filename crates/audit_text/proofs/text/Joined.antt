-- Texts that are joined.
use Rattle.std.proofs.Common.{◌≡◌, ◌∙◌, ℕ, List, [], ◌∷◌, ◌++◌, drop, map, ap, refl, sym}
use Rattle.std.specs.Prelude.{flat_map}
use Rattle.std.specs.List.{join_by}
use Rattle.std.proofs.lemmas.List.{drop-map}
use Rattle.audit_text.specs.text.ChangeParts.{joined}

flat_views : {A : Type 0} (text : A → List ℕ) (separator : List ℕ) (all : List A)
    → flat_map (λ it. separator ++ text it) all ≡ flat_map (λ it. separator ++ it) (map text all)
flat_views text separator [] = refl
flat_views text separator (it ∷ all) = ap (λ t. (separator ++ text it) ++ t) (flat_views text separator all)

-- Those of items.
pub joined_views : {A : Type 0} (text : A → List ℕ) (separator : List ℕ) (all : List A)
    → join_by text separator all ≡ joined separator (map text all)
joined_views text separator [] = refl
joined_views text separator (it ∷ all) = ap (λ t. text it ++ t) (flat_views text separator all)

-- Those from an index.
pub joined_from : {A : Type 0} (text : A → List ℕ) (separator : List ℕ) (index : ℕ) (all rest : List A) → rest ≡ drop index all
    → join_by text separator rest ≡ joined separator (drop index (map text all))
joined_from text separator index all rest is =
    ap (λ them. join_by text separator them) is ∙ joined_views text separator (drop index all)
    ∙ ap (joined separator) (sym (drop-map text index all))
