-- What the machine finds is a group.
use Rattle.std.proofs.Common.{◌≡◌, ◌≢◌, ℕ, Bool, true, false, List, [], ◌∷◌, ◌++◌, refl, sym, ap}
use Rattle.std.proofs.Common.{append_assoc, inl, inr}
use Rattle.std.proofs.lemmas.List.{append-nil}
use Rattle.std.proofs.lemmas.Bool.Decides.{not_from_Decides}
use Rattle.std.proofs.lemmas.Slice.Eq.{bytes_eq-Decides}
use Rattle.std.specs.Bool.{Decides}
use Rattle.std.specs.Prelude.{Option, Some, None, IsSome, is_some, codes}
use Rattle.uefi_hii.specs.Pairs.{Pair}
use Rattle.uefi_hii.specs.Configuration.{Configuration, Element, Spells, bytes_in, guid_in, name_in, number_in}
use Rattle.uefi_hii.specs.Slots.{AltSlot, AreGood, Expects, GuidSlot, IsGood, NameSlot, OffsetSlot, PathSlot, Slot}
use Rattle.uefi_hii.specs.Slots.{ValueSlot, WidthSlot}
use Rattle.uefi_hii.specs.Slots.{alt_after_header, guid_first, name_after_guid, offset_after_alt, offset_after_element}
use Rattle.uefi_hii.specs.Slots.{offset_after_header, path_after_name, value_after_width, width_after_offset}
use Rattle.uefi_hii.specs.Group.{Gives, Group}
use Rattle.uefi_hii.specs.Cut.{first_pair}
use Rattle.uefi_hii.proofs.Leading.{push_some}
use Rattle.uefi_hii.proofs.Machine.{AfterGuid, AfterName, AfterOffset, AfterWidth, Fail, InBody, Next, Outcome, Start}
use Rattle.uefi_hii.proofs.Machine.{State, Step, Stop, element, expect, header_of, in_body, result_at_end, run, run_by}
use Rattle.uefi_hii.proofs.Machine.{step, with_alt, with_element}
use Rattle.uefi_hii.proofs.PathIn.{path_in, path_in-is, path_in-some}
use Rattle.uefi_hii.proofs.Shapes.{header_good, header_push_alt, header_with_alt_good, some_is, spells_bare}
use Rattle.uefi_hii.proofs.Shapes.{spells_element, spells_header, spells_skipped, spells_some}

-- What holds nothing doesn't hold something.
nothing_in : {A : Type 0} (o : Option A) → o ≡ None → ¬ IsSome o
nothing_in o e s = let h : is_some o ≡ false = ap is_some e in cc

-- The pairs that were read before a state.
unfoldable pub WasRead : List Pair → State → Type 0
WasRead f Start = f ≡ []
WasRead f (AfterGuid x) = (g : Pair) × (f ≡ g ∷ []) × (guid_in g ≡ Some x)
WasRead f (AfterName x y) = (g n : Pair) × (f ≡ g ∷ n ∷ []) × (guid_in g ≡ Some x) × (name_in n ≡ Some y)
WasRead f (InBody c) = Spells f c
WasRead f (AfterOffset c n) = (body : List Pair) × (o : Pair) × (f ≡ body ++ o ∷ []) × Spells body c
    × (number_in (codes "OFFSET") o ≡ Some n)
WasRead f (AfterWidth c n m) =
    (body : List Pair) × (o w : Pair) × (f ≡ body ++ o ∷ w ∷ []) × Spells body c
    × (number_in (codes "OFFSET") o ≡ Some n) × (number_in (codes "WIDTH") w ≡ Some m)

-- What a step says of the pairs f that were read and of the pair p.
unfoldable Says : List Pair → State → Pair → Step → Type 0
Says f s p (Next t) = WasRead (f ++ p ∷ []) t
Says f s p (Fail slot) = Expects f (Some p) slot × ¬ IsGood slot p
Says f s p Stop = Group f (Some p) (result_at_end s)

-- A step of a slot, whether the pair holds something for it or not.
expect_says : {A : Type 0} (f : List Pair) (s : State) (p : Pair) (slot : Slot) (next : A → State) (o : Option A)
    → Expects f (Some p) slot → (o ≡ None → ¬ IsGood slot p)
    → ((x : A) → o ≡ Some x → WasRead (f ++ p ∷ []) (next x)) → Says f s p (expect slot next o)
unfolding Says expect
expect_says f s p slot next (Some x) expects bad good = good x refl
expect_says f s p slot next None expects bad good = (expects, bad refl)

-- The steps behind a header or an element.
offset_says : (f : List Pair) (c : Configuration) (p : Pair) → Spells f c → Expects f (Some p) OffsetSlot
    → Says f (InBody c) p (expect OffsetSlot (AfterOffset c) (number_in (codes "OFFSET") p))
unfolding WasRead
offset_says f c p s expects =
    expect_says f (InBody c) p OffsetSlot (AfterOffset c) _ expects (nothing_in _) (λ n e. (f, p, refl, s, e))

body_says : (f : List Pair) (c : Configuration) (es : List Element) (alt : Option ℕ) (a o g : Bool) (p : Pair)
    → Spells f c → c.elements ≡ es → c.alt_cfg_id ≡ alt → Decides a (p.key ≡ codes "ALTCFG")
    → Decides o (p.key ≡ codes "OFFSET") → Decides g (p.key ≡ codes "GUID")
    → Says f (InBody c) p (in_body c es alt a o g p)
unfolding WasRead Says in_body result_at_end
body_says f c [] None true o g p s bare alt is_alt is_offset is_guid =
    let header = spells_bare f c s bare in
    expect_says f (InBody c) p AltSlot (λ id. InBody (with_alt c id)) _
    (alt_after_header (header_good f c header alt) (is_alt.0 refl)) (nothing_in _)
    (λ id e. spells_header (f ++ p ∷ []) (with_alt c id) (header_push_alt f c p id header alt e) bare)
body_says f c [] None false o g p s bare alt is_alt is_offset is_guid =
    offset_says f c p s
    (offset_after_header (header_good f c (spells_bare f c s bare) alt) (not_from_Decides false is_alt refl))
body_says f c [] (Some id) a o g p s bare alt is_alt is_offset is_guid =
    offset_says f c p s (offset_after_alt (header_with_alt_good f c id (spells_bare f c s bare) alt) refl)
body_says f c (x ∷ es) alt a true g p s is_es is_alt_cfg is_alt is_offset is_guid =
    offset_says f c p s (offset_after_element (c, s, λ none. cc) (is_offset.0 refl))
body_says f c (x ∷ es) alt a false true p s is_es is_alt_cfg is_alt is_offset is_guid =
    record { not_empty = spells_some f c s; gives = (s, (is_guid.0 refl, λ none. cc)) }
body_says f c (x ∷ es) alt a false false p s is_es is_alt_cfg is_alt is_offset is_guid =
    spells_skipped f c p s (λ none. cc) (not_from_Decides false is_offset refl, not_from_Decides false is_guid refl)

step_says : (f : List Pair) (s : State) (p : Pair) → WasRead f s → Says f s p (step s p)
unfolding WasRead step
step_says f Start p h =
    expect_says f Start p GuidSlot AfterGuid (guid_in p) (guid_first h) (nothing_in _) (λ x e. (p, rw h, e))
step_says f (AfterGuid x) p h =
    expect_says f (AfterGuid x) p NameSlot (AfterName x) (name_in p)
    (name_after_guid (rw h.1 (some_is _ _ h.2, tt))) (nothing_in _) (λ y e. (h.0, p, rw h.1, h.2, e))
step_says f (AfterName x y) p h =
    expect_says f (AfterName x y) p PathSlot (λ path. InBody (header_of x y path)) (path_in p)
    (path_after_name (rw h.2 (some_is _ _ h.3, (some_is _ _ h.4, tt))))
    (λ none good. let k = path_in-is p good.0 good.1 in cc)
    (λ z e. spells_header (f ++ p ∷ []) (header_of x y z) (rw h.2 (h.3, h.4, path_in-some p z e, refl)) refl)
step_says f (InBody c) p h =
    body_says f c c.elements c.alt_cfg_id _ _ _ p h refl refl (bytes_eq-Decides p.key (codes "ALTCFG"))
    (bytes_eq-Decides p.key (codes "OFFSET")) (bytes_eq-Decides p.key (codes "GUID"))
step_says f (AfterOffset c n) p h =
    expect_says f (AfterOffset c n) p WidthSlot (AfterWidth c n) (number_in (codes "WIDTH") p)
    (width_after_offset (h.0, h.1 ∷ [], h.2, (c, h.3), (some_is _ _ h.4, tt))) (nothing_in _)
    (λ m e. (h.0, h.1, p, rw (h.2, append_assoc h.0 (h.1 ∷ []) (p ∷ [])), h.3, h.4, e))
step_says f (AfterWidth c n m) p h =
    expect_says f (AfterWidth c n m) p ValueSlot (λ v. InBody (with_element c (element n m v))) (bytes_in p)
    (value_after_width (h.0, h.1 ∷ h.2 ∷ [], h.3, (c, h.4), (some_is _ _ h.5, (some_is _ _ h.6, tt)))) (nothing_in _)
    (λ v e. rw (h.3, append_assoc h.0 (h.1 ∷ h.2 ∷ []) (p ∷ []))
    (spells_element h.0 (h.1 ∷ h.2 ∷ p ∷ []) c (element n m v) h.4 (h.5, h.6, e, refl, tt)))

-- Where no pair is left, the result is that of the pairs that were read.
gives_at_end : (f : List Pair) (s : State) → WasRead f s → Gives f None (result_at_end s)
unfolding WasRead result_at_end
gives_at_end f Start h = (GuidSlot, refl, inr (refl, guid_first h))
gives_at_end f (AfterGuid x) h =
    (NameSlot, refl, inr (refl, name_after_guid (rw h.1 (some_is _ _ h.2, tt))))
gives_at_end f (AfterName x y) h =
    (PathSlot, refl, inr (refl, path_after_name (rw h.2 (some_is _ _ h.3, (some_is _ _ h.4, tt)))))
gives_at_end f (InBody c) h = (h, tt)
gives_at_end f (AfterOffset c n) h =
    (WidthSlot, refl, inr (refl, width_after_offset (h.0, h.1 ∷ [], h.2, (c, h.3), (some_is _ _ h.4, tt))))
gives_at_end f (AfterWidth c n m) h =
    let good : AreGood (OffsetSlot ∷ WidthSlot ∷ []) (h.1 ∷ h.2 ∷ []) = (some_is _ _ h.5, (some_is _ _ h.6, tt)) in
    (ValueSlot, refl, inr (refl, value_after_width (h.0, h.1 ∷ h.2 ∷ [], h.3, (c, h.4), good)))

-- The pairs begin with the group that was found, and it gives the result.
pub record IsFound (ps : List Pair) (o : Outcome) : Type 0 where
  pub whole : ps ≡ o.group ++ o.rest
  pub group : Group o.group (first_pair o.rest) o.result

pub found : (s : State) (f ps : List Pair) → WasRead f s → f ++ ps ≢ [] → IsFound (f ++ ps) (run s f ps)
unfolding run run_by Says
found s f [] h some = record {
  whole = refl;
  group = record { not_empty = λ none. some (rw append-nil none); gives = gives_at_end f s h };
}
found s f (p ∷ ps) h some =
    by_step (step s p) (step_says f s p h)
    (λ t read. found t (f ++ p ∷ []) ps read (λ none. some (rw (← append_assoc f (p ∷ []) ps) none)))
  where
    by_step : (st : Step) → Says f s p st
        → ((t : State) → WasRead (f ++ p ∷ []) t → IsFound ((f ++ p ∷ []) ++ ps) (run t (f ++ p ∷ []) ps))
        → IsFound (f ++ p ∷ ps) (run_by s f p ps st (λ t. run t (f ++ p ∷ []) ps))
    by_step (Next t) read more = rw append_assoc at (more t read)
    by_step (Fail slot) fails more = record {
      whole = sym (append_assoc f (p ∷ []) ps);
      group = record { not_empty = push_some f p; gives = (slot, refl, inl (f, p, refl, fails.0, fails.1)) };
    }
    by_step Stop group more = record { whole = refl; group = group }
