-- What is kept of events with their counterparts, and of pairs, one after another.
use Rattle.std.proofs.Common.{◌≡◌, ◌∙◌, ℕ, ◌+◌, ◌<◌, List, [], ◌∷◌, ◌++◌, append-nil, get_or, length, map, take, ap, ap₂, inl, inr, refl, subst, sym}
use Rattle.std.specs.Prelude.{false, true, is_none, Option, None, Some, option_map}
use Rattle.std.specs.Borrow.{Bor}
use Rattle.std.specs.List.{filter_map}
use Rattle.std.proofs.lemmas.List.{map-append, map_more}
use Rattle.std.proofs.lemmas.List.Elements.{filter_map-append}
use Rattle.uefi_audits.specs.declared.diff.changed.EventPair.{EventPair}
use Rattle.uefi_audits.specs.declared.diff.difference.EventChange.{EventChange}
use Rattle.uefi_audits.specs.diff.Differences.{AreChanged, AreSame, Change, if_alone, Parts}
use Rattle.uefi_audits.specs.diff.Views.{change_of}
use Rattle.uefi_audits.specs.declared.diff.pcr.NumberedEntry.{NumberedEntry}
use Rattle.uefi_audits.specs.private.diff.Ranks.{numbered_at, pair_of}

-- One more that is kept, and one that isn't.
pub one_kept : {A B C D : Type 0} (view : A → B) (shown : C → D) (keep : B → Option D) (all : List A) (found new : List C) (index : ℕ)
    (item : A) (one : C) → index < length all → item ≡ get_or all index item
    → map shown found ≡ filter_map keep (map view (take index all)) → keep (view item) ≡ Some (shown one)
    → new ≡ found ++ one ∷ [] → map shown new ≡ filter_map keep (map view (take (index + 1) all))
one_kept view shown keep all found new index item one within here before is pushed =
    ap (map shown) pushed ∙ map-append shown found (one ∷ [])
    ∙ ap₂ (λ front last. front ++ last) before (sym (kept_one is))
    ∙ sym (filter_map-append keep (map view (take index all)) (view item ∷ []))
    ∙ ap (filter_map keep) (ap (λ it. map view (take index all) ++ view it ∷ []) here ∙ sym (map_more view all index item within))
  where
    kept_one : keep (view item) ≡ Some (shown one) → filter_map keep (view item ∷ []) ≡ shown one ∷ []
    kept_one is = simp is refl

pub none_kept : {A B C D : Type 0} (view : A → B) (shown : C → D) (keep : B → Option D) (all : List A) (found : List C) (index : ℕ)
    (item : A) → index < length all → item ≡ get_or all index item
    → map shown found ≡ filter_map keep (map view (take index all)) → keep (view item) ≡ None
    → map shown found ≡ filter_map keep (map view (take (index + 1) all))
none_kept view shown keep all found index item within here before is =
    before ∙ sym (append-nil (filter_map keep (map view (take index all))))
    ∙ ap (λ last. filter_map keep (map view (take index all)) ++ last) (sym (kept_none is))
    ∙ sym (filter_map-append keep (map view (take index all)) (view item ∷ []))
    ∙ ap (filter_map keep) (ap (λ it. map view (take index all) ++ view it ∷ []) here ∙ sym (map_more view all index item within))
  where
    kept_none : keep (view item) ≡ None → filter_map keep (view item ∷ []) ≡ []
    kept_none is = simp is refl

-- Those of some pairs and those of more.
both : (parts : Parts) (pairs more changed also : List Change) → AreChanged parts pairs changed
    → AreChanged parts more also → AreChanged parts (pairs ++ more) (changed ++ also)
both parts [] more changed also none second = subst (λ t. AreChanged parts more (t ++ also)) (sym none) second
both parts (pair ∷ pairs) more changed also (rest, inl same, first) second =
    (rest ++ also, inl (same.0, ap (λ t. t ++ also) same.1), both parts pairs more rest also first second)
both parts (pair ∷ pairs) more changed also (rest, inr differ, first) second =
    (rest ++ also, inr (differ.0, ap (λ t. t ++ also) differ.1), both parts pairs more rest also first second)

-- One more pair, whose events are the same or aren't.
more : (parts : Parts) (all : List EventPair) (found new : List EventChange) (index : ℕ) (item : EventPair) (also : List Change)
    → index < length all → item ≡ get_or all index item
    → AreChanged parts (map pair_of (take index all)) (map change_of found)
    → AreChanged parts (pair_of item ∷ []) also → map change_of new ≡ map change_of found ++ also
    → AreChanged parts (map pair_of (take (index + 1) all)) (map change_of new)
more parts all found new index item also within here before one grown =
    subst (λ them. AreChanged parts them (map change_of new))
    (ap (λ (it : EventPair). map pair_of (take index all) ++ pair_of it ∷ []) here ∙ sym (map_more pair_of all index item within))
    (subst (AreChanged parts (map pair_of (take index all) ++ pair_of item ∷ [])) (sym grown)
    (both parts (map pair_of (take index all)) (pair_of item ∷ []) (map change_of found) also before one))

pub one_differs : (parts : Parts) (all : List EventPair) (found new : List EventChange) (index : ℕ) (item : EventPair)
    (copied : EventChange) → index < length all → item ≡ get_or all index item
    → AreChanged parts (map pair_of (take index all)) (map change_of found)
    → (AreSame parts (pair_of item) → ⊥) → change_of copied ≡ pair_of item → new ≡ found ++ copied ∷ []
    → AreChanged parts (map pair_of (take (index + 1) all)) (map change_of new)
one_differs parts all found new index item copied within here before differ is pushed =
    more parts all found new index item (pair_of item ∷ []) within here before ([], inr (differ, refl), refl)
    (ap (map change_of) pushed ∙ map-append change_of found (copied ∷ [])
    ∙ ap (λ (it : Change). map change_of found ++ it ∷ []) is)

pub one_same : (parts : Parts) (all : List EventPair) (found : List EventChange) (index : ℕ) (item : EventPair)
    → index < length all → item ≡ get_or all index item
    → AreChanged parts (map pair_of (take index all)) (map change_of found) → AreSame parts (pair_of item)
    → AreChanged parts (map pair_of (take (index + 1) all)) (map change_of found)
one_same parts all found index item within here before same =
    more parts all found found index item [] within here before ([], inl (same, refl), refl)
    (sym (append-nil (map change_of found)))

-- Pairs, and the pairs of events with their counterparts.
pub joined : (pairs left all : List EventPair) {changes : List Change} → all ≡ pairs ++ left → map pair_of left ≡ changes
    → map pair_of all ≡ map pair_of pairs ++ changes
joined pairs left all is are =
    ap (map pair_of) is ∙ map-append pair_of pairs left ∙ ap (λ them. map pair_of pairs ++ them) are

-- An event without a counterpart is alone, and one with a counterpart isn't.
pub without : (found : Bor NumberedEntry) (counterpart : Option (Bor NumberedEntry)) → is_none counterpart ≡ true
    → if_alone (numbered_at found) (option_map numbered_at counterpart) ≡ Some (numbered_at found)
without found None none = refl
without found (Some other) none = cc

pub with_one : (found : Bor NumberedEntry) (counterpart : Option (Bor NumberedEntry)) → is_none counterpart ≡ false
    → if_alone (numbered_at found) (option_map numbered_at counterpart) ≡ None
with_one found None some = cc
with_one found (Some other) some = refl
