-- The events of a PCR, and where two lists of them differ first.
use Rattle.std.proofs.Common.{◌≡◌, ◌∙◌, ℕ, suc, ◌+◌, ◌<◌, max, List, [], ◌∷◌, ◌++◌, length, map, take, ap, ap₂, sym, append-nil}
use Rattle.std.proofs.Common.{get_or, arith, inl, inr, refl, subst}
use Rattle.std.specs.Prelude.{Bool, true, false, Option, None, Some, IfSome, is_some, nat_lt, option_copied, option_map, slice_get}
use Rattle.std.specs.Borrow.{Bor}
use Rattle.std.specs.List.{filter}
use Rattle.std.proofs.lemmas.Bool.{cases_lt, ltb-false, ltb-true}
use Rattle.std.proofs.lemmas.List.{map_more}
use Rattle.std.proofs.lemmas.List.Elements.{filter-append}
use Rattle.std.proofs.lemmas.Option.{slice_get-map, slice_get_past, slice_get_read}
use Rattle.uefi_tcg.specs.LogViews.{entry_of, event_of}
use Rattle.uefi_audits.specs.diff.Differences.{all_compared, compared, compared_at, compared_event, Parts}
use Rattle.uefi_audits.specs.diff.Numbered.{Numbered, is_of, of_pcr}
use Rattle.uefi_audits.specs.diff.Views.{numbered_of}
use Rattle.uefi_audits.specs.declared.diff.pcr.NumberedEntry.{NumberedEntry}
use Rattle.uefi_audits.specs.private.diff.Ranks.{numbered_at}

passing : (passes : Numbered → Bool) (item : Numbered) → passes item ≡ true → filter passes (item ∷ []) ≡ item ∷ []
passing passes item pass = simp pass refl

not_passing : (passes : Numbered → Bool) (item : Numbered) → passes item ≡ false → filter passes (item ∷ []) ≡ []
not_passing passes item pass = simp pass refl

-- One more of those of a PCR; and one that is of another.
kept : {A B : Type 0} (f : A → B) (passes : B → Bool) (all : List A) (index : ℕ) (default : A) → index < length all
    → filter passes (map f (take (index + 1) all))
    ≡ filter passes (map f (take index all)) ++ filter passes (f (get_or all index default) ∷ [])
kept f passes all index default within =
    ap (filter passes) (map_more f all index default within)
    ∙ filter-append passes (map f (take index all)) (f (get_or all index default) ∷ [])

pub one_kept : (pcr : ℕ) (all : List NumberedEntry) (found new : List (Bor NumberedEntry)) (index : ℕ) (item : NumberedEntry)
    (is_its : Bool) → index < length all → map numbered_at found ≡ of_pcr pcr (map numbered_of (take index all))
    → item ≡ get_or all index item → is_its ≡ is_of pcr (entry_of item.entry) → is_its ≡ true
    → map numbered_at new ≡ map numbered_at found ++ numbered_of item ∷ []
    → map numbered_at new ≡ of_pcr pcr (map numbered_of (take (index + 1) all))
one_kept pcr all found new index item is_its within before is test its pushed =
    let of_it : is_of pcr (entry_of item.entry) ≡ true = sym test ∙ its in
    pushed
    ∙ ap₂ (λ a b. a ++ b) before (sym (passing (λ (found : Numbered). is_of pcr found.entry) (numbered_of item) of_it)
    ∙ ap (λ (it : NumberedEntry). of_pcr pcr (numbered_of it ∷ [])) is)
    ∙ sym (kept numbered_of (λ (found : Numbered). is_of pcr found.entry) all index item within)

pub none_kept : (pcr : ℕ) (all : List NumberedEntry) (found : List (Bor NumberedEntry)) (index : ℕ) (item : NumberedEntry)
    (is_its : Bool) → index < length all → map numbered_at found ≡ of_pcr pcr (map numbered_of (take index all))
    → item ≡ get_or all index item → is_its ≡ is_of pcr (entry_of item.entry) → is_its ≡ false
    → map numbered_at found ≡ of_pcr pcr (map numbered_of (take (index + 1) all))
none_kept pcr all found index item is_its within before is test other =
    let of_other : is_of pcr (entry_of item.entry) ≡ false = sym test ∙ other in
    before ∙ sym (append-nil (of_pcr pcr (map numbered_of (take index all))))
    ∙ ap (λ b. of_pcr pcr (map numbered_of (take index all)) ++ b)
    (sym (not_passing (λ (found : Numbered). is_of pcr found.entry) (numbered_of item) of_other)
    ∙ ap (λ (it : NumberedEntry). of_pcr pcr (numbered_of it ∷ [])) is)
    ∙ sym (kept numbered_of (λ (found : Numbered). is_of pcr found.entry) all index item within)

-- What holds below a number and at it holds below the next one.
pub below_more : (P : ℕ → Type 0) (n : ℕ) → ((k : ℕ) → k < n → P k) → P n → (k : ℕ) → k < n + 1 → P k
below_more P n before here k below =
    elim (cases_lt k n) [
      | inl less ↦ before k less
      | inr most ↦ let same : n ≡ k = omega arith in subst P same here
    ]

map_twice : {A B C : Type 0} (g : B → C) (f : A → B) (x : Option A)
    → option_map g (option_map f x) ≡ option_map (λ a. g (f a)) x
map_twice g f None = refl
map_twice g f (Some a) = refl

-- What the look-up of a place in a slice returns.
got_is : {A : Type 0} (all : List A) (at : ℕ) (got : Option (Bor A)) → is_some got ≡ nat_lt at (length all)
    → IfSome got (λ found. found.now ≡ get_or all at found.now) → option_map (λ found. found.now) got ≡ slice_get all at
got_is all at None test is = sym (slice_get_past all at (ltb-false at (length all) (sym test)))
got_is all at (Some found) test is =
    sym (slice_get_read all (length all) at found.now refl (ltb-true at (length all) (sym test)) is)

-- The event at a place of a slice.
event_there : (parts : Parts) (all : List (Bor NumberedEntry)) (at : ℕ)
    → option_map (λ found. compared_event parts (event_of found.now.entry.event)) (slice_get all at)
    ≡ compared_at parts (map numbered_at all) at
event_there parts all at =
    sym (map_twice (compared parts) numbered_at (slice_get all at))
    ∙ ap (option_map (compared parts)) (sym (slice_get-map numbered_at all at))

pub event_got : (parts : Parts) (all : List (Bor NumberedEntry)) (at : ℕ) (got : Option (Bor (Bor NumberedEntry)))
    (copied : Option (Bor NumberedEntry)) → copied ≡ option_copied got → is_some got ≡ nat_lt at (length all)
    → IfSome got (λ found. found.now ≡ get_or all at found.now)
    → option_map (λ found. compared_event parts (event_of found.now.entry.event)) copied
    ≡ compared_at parts (map numbered_at all) at
event_got parts all at got copied is test lookup =
    ap (option_map (λ (found : Bor NumberedEntry). compared_event parts (event_of found.now.entry.event)))
    (is ∙ got_is all at got test lookup) ∙ event_there parts all at

-- Lists with the same events at all places have the same events.
pub all_same : (parts : Parts) (old new : List Numbered)
    → ((k : ℕ) → k < max (length old) (length new) → compared_at parts old k ≡ compared_at parts new k)
    → all_compared parts old ≡ all_compared parts new
all_same parts [] [] same = refl
all_same parts [] (b ∷ more) same = let here = same 0 (omega arith) in cc
all_same parts (a ∷ more) [] same = let here = same 0 (omega arith) in cc
all_same parts (a ∷ ones) (b ∷ others) same =
    let here = same 0 (omega arith) in
    let head : compared parts a ≡ compared parts b = cc in
    ap₂ (λ x xs. x ∷ xs) head (all_same parts ones others (λ k below. same (suc k) (omega arith)))
