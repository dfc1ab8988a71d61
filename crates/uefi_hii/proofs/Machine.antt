-- A machine that reads one group pair by pair. What it finds is one group, and it finds every group.
use Rattle.std.proofs.Common.{◌≡◌, ℕ, ◌%◌, ◌^◌, Bool, true, false, List, [], ◌∷◌, ◌++◌, refl, append_assoc}
use Rattle.std.proofs.lemmas.List.{append-nil}
use Rattle.std.specs.Prelude.{Option, Some, None, Result, Ok, Err, codes}
use Rattle.std.specs.Str.{bytes_eq}
use Rattle.uefi_hii.specs.declared.error.ParseError.{ParseError}
use Rattle.uefi_path.specs.Node.{Node}
use Rattle.uefi_hii.specs.Pairs.{Pair}
use Rattle.uefi_hii.specs.Configuration.{Configuration, Element, bytes_in, guid_in, name_in, number_in}
use Rattle.uefi_hii.specs.Slots.{AltSlot, GuidSlot, NameSlot, OffsetSlot, PathSlot, Slot, ValueSlot, WidthSlot}
use Rattle.uefi_hii.specs.Slots.{error_of}
use Rattle.uefi_hii.proofs.PathIn.{path_in}

-- The parts of a configuration, as pairs add them.
abbrev pub element : ℕ → ℕ → List ℕ → Element
element o w v = record { offset = o; width = w; value = v; nvconfig = [] }

abbrev pub header_of : List ℕ → List ℕ → List Node → Configuration
header_of g n path = record { guid = g; name = n; path = path; alt_cfg_id = None; elements = [] }

abbrev pub with_alt : Configuration → ℕ → Configuration
with_alt c id = record c { alt_cfg_id = Some (id % 2 ^ 16) }

abbrev pub with_element : Configuration → Element → Configuration
with_element c e = record c { elements = c.elements ++ e ∷ [] }

-- An element, and a pair more that it skips; elements, of which the last skips it; and a configuration with them.
abbrev pub with_pair : Element → Pair → Element
with_pair e p = record e { nvconfig = e.nvconfig ++ p ∷ [] }

abbrev pub last_with_pair : List Element → Pair → List Element
last_with_pair [] p = []
last_with_pair (e ∷ []) p = with_pair e p ∷ []
last_with_pair (e ∷ f ∷ es) p = e ∷ last_with_pair (f ∷ es) p

abbrev pub with_skipped : Configuration → Pair → Configuration
with_skipped c p = record c { elements = last_with_pair c.elements p }

-- What was read of the group so far.
pub data State : Type 0 where
  Start : State
  AfterGuid : List ℕ → State
  AfterName : List ℕ → List ℕ → State
  InBody : Configuration → State
  AfterOffset : Configuration → ℕ → State
  AfterWidth : Configuration → ℕ → ℕ → State

-- What the next pair does: it is read, or wrong, or begins the next group.
pub data Step : Type 0 where
  Next : State → Step
  Fail : Slot → Step
  Stop : Step

-- The step of a slot, by what the pair holds for it.
unfoldable pub expect : {A : Type 0} → Slot → (A → State) → Option A → Step
expect slot next (Some x) = Next (next x)
expect slot next None = Fail slot

-- The step behind a header or an element, by the elements and the identifier so far, and by whether the key is ALTCFG,
-- OFFSET or GUID.
unfoldable pub in_body : Configuration → List Element → Option ℕ → Bool → Bool → Bool → Pair → Step
in_body c [] None true o g p = expect AltSlot (λ id. InBody (with_alt c id)) (number_in (codes "ALTCFG") p)
in_body c [] None false o g p = expect OffsetSlot (AfterOffset c) (number_in (codes "OFFSET") p)
in_body c [] (Some id) a o g p = expect OffsetSlot (AfterOffset c) (number_in (codes "OFFSET") p)
in_body c (e ∷ es) alt a true g p = expect OffsetSlot (AfterOffset c) (number_in (codes "OFFSET") p)
in_body c (e ∷ es) alt a false true p = Stop
in_body c (e ∷ es) alt a false false p = Next (InBody (with_skipped c p))

unfoldable pub step : State → Pair → Step
step Start p = expect GuidSlot AfterGuid (guid_in p)
step (AfterGuid g) p = expect NameSlot (AfterName g) (name_in p)
step (AfterName g n) p = expect PathSlot (λ path. InBody (header_of g n path)) (path_in p)
step (InBody c) p =
    in_body c c.elements c.alt_cfg_id (bytes_eq p.key (codes "ALTCFG")) (bytes_eq p.key (codes "OFFSET"))
    (bytes_eq p.key (codes "GUID")) p
step (AfterOffset c o) p = expect WidthSlot (AfterWidth c o) (number_in (codes "WIDTH") p)
step (AfterWidth c o w) p = expect ValueSlot (λ v. InBody (with_element c (element o w v))) (bytes_in p)

-- The result where no pair is left, and where the next pair begins another group.
unfoldable pub result_at_end : State → Result Configuration ParseError
result_at_end Start = Err (error_of GuidSlot)
result_at_end (AfterGuid g) = Err (error_of NameSlot)
result_at_end (AfterName g n) = Err (error_of PathSlot)
result_at_end (InBody c) = Ok c
result_at_end (AfterOffset c o) = Err (error_of WidthSlot)
result_at_end (AfterWidth c o w) = Err (error_of ValueSlot)

-- What the machine finds: a group, the pairs after it, and its result.
pub record Outcome : Type 0 where
  pub group : List Pair
  pub rest : List Pair
  pub result : Result Configuration ParseError

abbrev pub outcome : List Pair → List Pair → Result Configuration ParseError → Outcome
outcome g rest r = record { group = g; rest = rest; result = r }

-- A run from a state, after the pairs f, by the step that the next pair does.
unfoldable pub run_by : State → List Pair → Pair → List Pair → Step → (State → Outcome) → Outcome
run_by s f p ps (Next t) on = on t
run_by s f p ps (Fail slot) on = outcome (f ++ p ∷ []) ps (Err (error_of slot))
run_by s f p ps Stop on = outcome f (p ∷ ps) (result_at_end s)

unfoldable pub run : State → List Pair → List Pair → Outcome
run s f [] = outcome f [] (result_at_end s)
run s f (p ∷ ps) = run_by s f p ps (step s p) (λ t. run t (f ++ p ∷ []) ps)

-- The step that pairs do, one after another, up to the first that isn't read.
unfoldable pub on_next : Step → (State → Step) → Step
on_next (Next t) more = more t
on_next (Fail slot) more = Fail slot
on_next Stop more = Stop

unfoldable pub steps : State → List Pair → Step
steps s [] = Next s
steps s (p ∷ ps) = on_next (step s p) (λ t. steps t ps)

-- The pairs lead from one state to the other.
abbrev pub Leads : State → List Pair → State → Type 0
Leads s ps t = steps s ps ≡ Next t

-- The first of them is read, and the others lead on.
leads_first : (s t : State) (p : Pair) (ps : List Pair) → Leads s (p ∷ ps) t
    → (u : State) × (step s p ≡ Next u) × Leads u ps t
unfolding steps on_next
leads_first s t p ps = by_step (step s p)
  where
    by_step : (st : Step) → on_next st (λ u. steps u ps) ≡ Next t → (u : State) × (st ≡ Next u) × Leads u ps t
    by_step (Next u) m = (u, refl, m)
    by_step (Fail slot) m = absurd (cc)
    by_step Stop m = absurd (cc)

-- Pairs that lead on, and others that lead on from there.
pub leads_on : (s t u : State) (ps qs : List Pair) → Leads s ps t → Leads t qs u → Leads s (ps ++ qs) u
unfolding steps on_next
leads_on s t u [] qs m n = cc
leads_on s t u (p ∷ ps) qs m n = let v = leads_first s t p ps m in rw v.1 (leads_on v.0 t u ps qs v.2 n)

-- A run over pairs that lead on goes on from where they lead.
pub run-leads : (s t : State) (f ps rest : List Pair) → Leads s ps t → run s f (ps ++ rest) ≡ run t (f ++ ps) rest
unfolding steps run run_by
run-leads s t f [] rest m = rw append-nil (cc)
run-leads s t f (p ∷ ps) rest m =
    let u = leads_first s t p ps m in
    rw (u.1, ← append_assoc f (p ∷ []) ps) (run-leads u.0 t (f ++ p ∷ []) ps rest u.2)
