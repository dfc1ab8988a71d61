-- The machine finds every group.
use Rattle.std.proofs.Common.{◌≡◌, ◌≢◌, ℕ, List, [], ◌∷◌, ◌++◌, refl, sym, ◌∙◌, ap, arith}
use Rattle.std.proofs.Common.{append_assoc, inl, inr}
use Rattle.std.specs.Prelude.{Option, Some, None, Result, Ok, Err, IsSome, codes}
use Rattle.uefi_hii.specs.declared.error.ParseError.{ParseError}
use Rattle.uefi_path.specs.Node.{Node}
use Rattle.uefi_hii.specs.Pairs.{Pair}
use Rattle.uefi_hii.specs.Configuration.{Configuration, bytes_in, guid_in, name_in, number_in}
use Rattle.uefi_hii.specs.Slots.{AreGood, Expects, GuidSlot, IsBodyThen, IsGood, IsHeader, IsHeaderWithAlt}
use Rattle.uefi_hii.specs.Slots.{NameSlot, OffsetSlot, Slot, WidthSlot, AltSlot, error_of}
use Rattle.uefi_hii.specs.Slots.{alt_after_header, guid_first, name_after_guid, offset_after_alt, offset_after_element}
use Rattle.uefi_hii.specs.Slots.{offset_after_header, path_after_name, value_after_width, width_after_offset}
use Rattle.uefi_hii.specs.Group.{EndsBefore, FailsAt, Gives}
use Rattle.uefi_hii.specs.Cut.{first_pair}
use Rattle.uefi_hii.proofs.Leading.{is_key, is_not_key, leads_body, step-alt, step-offset, step-stop}
use Rattle.uefi_hii.proofs.Machine.{AfterGuid, AfterName, AfterOffset, AfterWidth, Fail, InBody, Leads, Start, State}
use Rattle.uefi_hii.proofs.Machine.{expect, header_of, in_body, leads_on, on_next, outcome, result_at_end, run, run_by}
use Rattle.uefi_hii.proofs.Machine.{run-leads, step, steps, with_alt}
use Rattle.uefi_hii.proofs.PathIn.{path_in, path_in-is, path_in-some}

-- What a slot's pair holds, where it holds something, and where it doesn't.
pub some_of : {A : Type 0} (o : Option A) → IsSome o → (x : A) × (o ≡ Some x)
some_of (Some x) e = (x, refl)
some_of None e = cc

none_of : {A : Type 0} (o : Option A) → ¬ IsSome o → o ≡ None
none_of (Some x) h = absurd (h refl)
none_of None h = refl

-- Pairs that are good for the slots of a header, in order, lead on.
good_guid : (f : List Pair) → AreGood (GuidSlot ∷ []) f → (x : List ℕ) × Leads Start f (AfterGuid x)
unfolding steps on_next step expect
good_guid [] h = absurd h
good_guid (g ∷ []) h = let x = some_of (guid_in g) h.0 in (x.0, cc x.1)
good_guid (g ∷ n ∷ f) h = absurd h.1

good_name : (f : List Pair) → AreGood (GuidSlot ∷ NameSlot ∷ []) f → (x y : List ℕ) × Leads Start f (AfterName x y)
unfolding steps on_next step expect
good_name [] h = absurd h
good_name (g ∷ []) h = absurd h.1
good_name (g ∷ n ∷ []) h =
    let x = some_of (guid_in g) h.0 in let y = some_of (name_in n) h.1.0 in (x.0, y.0, cc (x.1, y.1))
good_name (g ∷ n ∷ p ∷ f) h = absurd h.1.1

good_path : (f : List Pair) → IsHeader f → (x y : List ℕ) × (z : List Node) × Leads Start f (InBody (header_of x y z))
unfolding steps on_next step expect
good_path [] h = absurd h
good_path (g ∷ []) h = absurd h.1
good_path (g ∷ n ∷ []) h = absurd h.1.1
good_path (g ∷ n ∷ p ∷ []) h =
    let x = some_of (guid_in g) h.0 in
    let y = some_of (name_in n) h.1.0 in
    let z = h.1.1.0 in (x.0, y.0, z.0, cc (x.1, y.1, path_in-is p z.0 z.1))
good_path (g ∷ n ∷ p ∷ q ∷ f) h = absurd h.1.1.1

good_alt : (f : List Pair) → IsHeaderWithAlt f
    → (x y : List ℕ) × (z : List Node) × (id : ℕ) × Leads Start f (InBody (with_alt (header_of x y z) id))
unfolding steps on_next step expect
good_alt [] h = absurd h
good_alt (g ∷ []) h = absurd h.1
good_alt (g ∷ n ∷ []) h = absurd h.1.1
good_alt (g ∷ n ∷ p ∷ []) h = absurd h.1.1.1
good_alt (g ∷ n ∷ p ∷ a ∷ []) h =
    let x = some_of (guid_in g) h.0 in
    let y = some_of (name_in n) h.1.0 in
    let z = h.1.1.0 in
    let id = some_of (number_in (codes "ALTCFG") a) h.1.1.1.0 in
    (x.0, y.0, z.0, id.0, cc (x.1, y.1, path_in-is p z.0 z.1, step-alt x.0 y.0 z.0 a id.0 id.1))
good_alt (g ∷ n ∷ p ∷ a ∷ b ∷ f) h = absurd h.1.1.1.1

-- So do those of the first slots of an element behind a body.
good_offset : (c : Configuration) (f : List Pair) → AreGood (OffsetSlot ∷ []) f
    → (o : ℕ) × Leads (InBody c) f (AfterOffset c o)
unfolding steps on_next
good_offset c [] h = absurd h
good_offset c (o ∷ []) h = let n = some_of (number_in (codes "OFFSET") o) h.0 in (n.0, cc (step-offset c o n.0 n.1))
good_offset c (o ∷ w ∷ f) h = absurd h.1

good_width : (c : Configuration) (f : List Pair) → AreGood (OffsetSlot ∷ WidthSlot ∷ []) f
    → (o w : ℕ) × Leads (InBody c) f (AfterWidth c o w)
unfolding steps on_next step expect
good_width c [] h = absurd h
good_width c (o ∷ []) h = absurd h.1
good_width c (o ∷ w ∷ []) h =
    let n = some_of (number_in (codes "OFFSET") o) h.0 in
    let m = some_of (number_in (codes "WIDTH") w) h.1.0 in (n.0, m.0, cc (step-offset c o n.0 n.1, m.1))
good_width c (o ∷ w ∷ v ∷ f) h = absurd h.1.1

-- Pairs behind a body lead on from it.
behind_body : (slots : List Slot) (f : List Pair) (h : IsBodyThen slots f) (t : State) → Leads (InBody h.3.0) h.1 t
    → Leads Start f t
behind_body slots f h t m = rw h.2 (leads_on Start (InBody h.3.0) t h.0 h.1 (leads_body h.0 h.3.0 h.3.1) m)

-- In a body, a pair that isn't good for its slot is wrong: behind the header without an identifier and with one, and
-- behind an element.
alt_fails : (x y : List ℕ) (z : List Node) (q : Pair) → q.key ≡ codes "ALTCFG"
    → number_in (codes "ALTCFG") q ≡ None → step (InBody (header_of x y z)) q ≡ Fail AltSlot
unfolding step in_body expect
alt_fails x y z q key none = let same = is_key q.key _ key in cc

first_offset_fails : (x y : List ℕ) (z : List Node) (q : Pair) → q.key ≢ codes "ALTCFG"
    → number_in (codes "OFFSET") q ≡ None → step (InBody (header_of x y z)) q ≡ Fail OffsetSlot
unfolding step in_body expect
first_offset_fails x y z q key none = let other = is_not_key q.key _ key in cc

next_offset_fails : (c : Configuration) (q : Pair) → c.elements ≢ [] → q.key ≡ codes "OFFSET"
    → number_in (codes "OFFSET") q ≡ None → step (InBody c) q ≡ Fail OffsetSlot
unfolding step in_body expect
next_offset_fails c q some key none = let same = is_key q.key _ key in grind arith

-- A pair that no path is in.
no_path : (q : Pair) → ¬ ((path : List Node) × (path_in q ≡ Some path)) → path_in q ≡ None
no_path q none = none_of (path_in q) (λ some. none (some_of (path_in q) some))

-- The machine is in a state after the pairs f in which the pair q is wrong for the slot.
abbrev pub IsWrong : List Pair → Pair → Slot → Type 0
IsWrong f q slot = (s : State) × Leads Start f s × (step s q ≡ Fail slot)

-- A pair that isn't good for the slot that has to come is wrong.
pub wrong_pair : (slot : Slot) (f : List Pair) (q : Pair) → Expects f (Some q) slot → ¬ IsGood slot q
    → IsWrong f q slot
unfolding steps step in_body expect
wrong_pair slot f q (guid_first e) bad = (Start, rw e, rw (none_of (guid_in q) bad))
wrong_pair slot f q (name_after_guid h) bad =
    let a = good_guid f h in (AfterGuid a.0, a.1, rw (none_of (name_in q) bad))
wrong_pair slot f q (path_after_name h) bad =
    let a = good_name f h in
    (AfterName a.0 a.1, a.2, rw (no_path q (λ x. bad (x.0, path_in-some q x.0 x.1))))
wrong_pair slot f q (alt_after_header h key) bad =
    let a = good_path f h in
    (InBody (header_of a.0 a.1 a.2), a.3, alt_fails a.0 a.1 a.2 q key (none_of (number_in (codes "ALTCFG") q) bad))
wrong_pair slot f q (offset_after_header h key) bad =
    let a = good_path f h in
    let none = none_of (number_in (codes "OFFSET") q) bad in
    (InBody (header_of a.0 a.1 a.2), a.3, first_offset_fails a.0 a.1 a.2 q key none)
wrong_pair slot f q (offset_after_alt h some) bad =
    let a = good_alt f h in
    (InBody (with_alt (header_of a.0 a.1 a.2) a.3), a.4, rw (none_of (number_in (codes "OFFSET") q) bad))
wrong_pair slot f q (offset_after_element h key) bad =
    let none = none_of (number_in (codes "OFFSET") q) bad in
    (InBody h.0, leads_body f h.0 h.1, next_offset_fails h.0 q h.2 key none)
wrong_pair slot f q (width_after_offset h) bad =
    let a = good_offset h.3.0 h.1 h.4 in
    (AfterOffset h.3.0 a.0, behind_body (OffsetSlot ∷ []) f h _ a.1, rw (none_of (number_in (codes "WIDTH") q) bad))
wrong_pair slot f q (value_after_width h) bad =
    let a = good_width h.3.0 h.1 h.4 in
    (AfterWidth h.3.0 a.0 a.1, behind_body (OffsetSlot ∷ WidthSlot ∷ []) f h _ a.2, rw (none_of (bytes_in q) bad))

-- Where no pair is left and one has to come, the result is the slot's error.
missing_pair : (slot : Slot) (f : List Pair) → Expects f None slot
    → (s : State) × Leads Start f s × (result_at_end s ≡ Err (error_of slot))
unfolding steps result_at_end
missing_pair slot f (guid_first e) = (Start, rw e, refl)
missing_pair slot f (name_after_guid h) = let a = good_guid f h in (AfterGuid a.0, a.1, refl)
missing_pair slot f (path_after_name h) = let a = good_name f h in (AfterName a.0 a.1, a.2, refl)
missing_pair slot f (alt_after_header h key) = absurd key
missing_pair slot f (offset_after_header h key) = absurd key
missing_pair slot f (offset_after_alt h some) = cc
missing_pair slot f (offset_after_element h key) = absurd key
missing_pair slot f (width_after_offset h) =
    let a = good_offset h.3.0 h.1 h.4 in (AfterOffset h.3.0 a.0, behind_body (OffsetSlot ∷ []) f h _ a.1, refl)
missing_pair slot f (value_after_width h) =
    let a = good_width h.3.0 h.1 h.4 in
    (AfterWidth h.3.0 a.0 a.1, behind_body (OffsetSlot ∷ WidthSlot ∷ []) f h _ a.2, refl)

-- A configuration ends before the pair that the machine stops at.
run-body : (c : Configuration) (g rest : List Pair) → EndsBefore (first_pair rest) c
    → run (InBody c) g rest ≡ outcome g rest (Ok c)
unfolding run run_by result_at_end
run-body c g [] h = refl
run-body c g (q ∷ rest) h = rw (step-stop c q h.1 h.0)

no_rest : (rest : List Pair) → first_pair rest ≡ None → rest ≡ []
no_rest [] e = refl
no_rest (q ∷ rest) e = cc

-- A run over pairs that begin with a group finds the group, with its result.
pub complete : (g rest : List Pair) (r : Result Configuration ParseError) → Gives g (first_pair rest) r
    → run Start [] (g ++ rest) ≡ outcome g rest r
unfolding run run_by
complete g rest (Ok c) m = run-leads Start (InBody c) [] g rest (leads_body g c m.0) ∙ run-body c g rest m.1
complete g rest (Err e) m = by_slot m.2 ∙ ap (λ x. outcome g rest (Err x)) (sym m.1)
  where
    by_slot : FailsAt m.0 g (first_pair rest) → run Start [] (g ++ rest) ≡ outcome g rest (Err (error_of m.0))
    by_slot (inl h) =
        let f = wrong_pair m.0 h.0 h.1 h.3 h.4 in
        rw (h.2, append_assoc h.0 (h.1 ∷ []) rest)
        (run-leads Start f.0 [] h.0 (h.1 ∷ rest) f.1 ∙ rw f.2)
    by_slot (inr h) =
        let f = missing_pair m.0 g h.1 in
        rw (no_rest rest h.0) (run-leads Start f.0 [] g [] f.1 ∙ ap (outcome g []) f.2)
