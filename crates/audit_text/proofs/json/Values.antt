-- Values and members of JSON, one after another.
use Rattle.std.proofs.Common.{◌≡◌, ◌∙◌, ℕ, ◌+◌, ◌<◌, List, [], ◌∷◌, ◌++◌, length, take, get_or, ap, refl, sym}
use Rattle.std.specs.List.{flat_map}
use Rattle.serde_json.specs.Data.{Data, Members, no_members, put}
use Rattle.uefi_audits.specs.Numbered.{numbered}
use Rattle.uefi_audits.proofs.FirstOnes.{one_joined}
use Rattle.audit_text.specs.json.Json.{Json, values_of, with_members}

values_append : (some others : List Json) → values_of (some ++ others) ≡ values_of some ++ values_of others
values_append [] others = refl
values_append (json ∷ some) others = ap (λ it. json.value ∷ it) (values_append some others)

pub both : (members : Members) (some others : List (List ℕ × Json))
    → with_members members (some ++ others) ≡ with_members (with_members members some) others
both before [] others = refl
both before (one ∷ some) others = both (put one.0 one.1.value before) some others

-- Those of the items so far, and of one more.
module _ {A : Type 0} (all : List A) (index : ℕ) (default : A) (within : index < length all) where
  pub values_joined : (f : A → List Json) (found new : List Data) → found ≡ values_of (flat_map f (take index all))
      → new ≡ found ++ values_of (f (get_or all index default)) → new ≡ values_of (flat_map f (take (index + 1) all))
  values_joined f found new is more =
      let one = f (get_or all index default) in
      more ∙ ap (λ it. it ++ values_of one) is ∙ sym (values_append (flat_map f (take index all)) one)
      ∙ ap values_of (one_joined f all (flat_map f (take index all)) _ index default within refl refl)

  pub members_joined : (f : A → List (List ℕ × Json)) (found new : Members)
      → found ≡ with_members no_members (flat_map f (take index all))
      → new ≡ with_members found (f (get_or all index default))
      → new ≡ with_members no_members (flat_map f (take (index + 1) all))
  members_joined f found new is more =
      let one = f (get_or all index default) in
      more ∙ ap (λ it. with_members it one) is ∙ sym (both no_members (flat_map f (take index all)) one)
      ∙ ap (with_members no_members) (one_joined f all (flat_map f (take index all)) _ index default within refl refl)

-- Those of numbered items.
pub numbered_values : {A : Type 0} (f : ℕ → A → List Json) (number : ℕ) (items : List A)
    → numbered (λ n item. values_of (f n item)) number items ≡ values_of (numbered f number items)
unfolding numbered
numbered_values f number [] = refl
numbered_values f number (item ∷ items) =
    ap (λ it. values_of (f number item) ++ it) (numbered_values f (number + 1) items)
    ∙ sym (values_append (f number item) (numbered f (number + 1) items))
