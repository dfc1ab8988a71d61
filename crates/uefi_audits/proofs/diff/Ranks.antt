-- Events with their ranks, one after another, and the last of them with a key.
use Rattle.std.proofs.Common.{◌≡◌, ◌∙◌, ℕ, zero, suc, List, [], ◌∷◌, ◌++◌, take, ap, ap₂, append_assoc, append-nil, refl, sym}
use Rattle.std.specs.Prelude.{Bool, true, false, cond, Option, None, Some, option_map, slice_get}
use Rattle.uefi_audits.specs.diff.Counterparts.{IsCounterpart, Key, how_many}
use Rattle.uefi_audits.specs.diff.Numbered.{Numbered}
use Rattle.uefi_audits.specs.private.diff.Keys.{Ranked}
use Rattle.uefi_audits.specs.private.diff.Ranks.{RankedNumbered, is_ranked, last_with, or_with, ranked_after, ranked_in, with_rank}
use Rattle.uefi_audits.proofs.diff.Orders.{ranked_itself, same_ranked}

-- One more.
after_more : (key_of : Numbered → Key) (before all : List Numbered) (found : Numbered)
    → ranked_after key_of before (all ++ found ∷ [])
    ≡ ranked_after key_of before all ++ with_rank key_of (before ++ all) found ∷ []
after_more key_of before [] found = ap (λ them. with_rank key_of them found ∷ []) (sym (append-nil before))
after_more key_of before (first ∷ all) found =
    ap (λ them. with_rank key_of before first ∷ them) (after_more key_of (before ++ first ∷ []) all found
    ∙ ap (λ them. ranked_after key_of (before ++ first ∷ []) all ++ with_rank key_of them found ∷ [])
    (append_assoc before (first ∷ []) all))

pub ranked_more : (key_of : Numbered → Key) (all : List Numbered) (found : Numbered)
    → ranked_in key_of (all ++ found ∷ []) ≡ ranked_in key_of all ++ with_rank key_of all found ∷ []
ranked_more key_of all found = after_more key_of [] all found

pub last_more : (key : Ranked) (all : List RankedNumbered) (ranked : RankedNumbered)
    → last_with key (all ++ ranked ∷ []) ≡ cond (is_ranked key ranked.key) (Some ranked.found) (last_with key all)
last_more key [] ranked = refl
last_more key (first ∷ all) ranked =
    ap (or_with key first) (last_more key all ranked) ∙ by_test (is_ranked key ranked.key) refl
  where
    by_test : (test : Bool) → is_ranked key ranked.key ≡ test
        → or_with key first (cond test (Some ranked.found) (last_with key all))
        ≡ cond test (Some ranked.found) (or_with key first (last_with key all))
    by_test true is = refl
    by_test false is = refl

-- The event at a place, with its rank.
rank_at : (key_of : Numbered → Key) (before all : List Numbered) (at : ℕ)
    → slice_get (ranked_after key_of before all) at
    ≡ option_map (with_rank key_of (before ++ take at all)) (slice_get all at)
rank_at key_of before [] at = refl
rank_at key_of before (found ∷ all) zero = ap (λ them. Some (with_rank key_of them found)) (sym (append-nil before))
rank_at key_of before (found ∷ all) (suc at) =
    rank_at key_of (before ++ found ∷ []) all at
    ∙ ap (λ them. option_map (with_rank key_of them) (slice_get all at)) (append_assoc before (found ∷ []) (take at all))

-- A ranked event at a place is that of the list, with its rank.
pub rank_of : (key_of : Numbered → Key) (all : List Numbered) (at : ℕ) (ranked : RankedNumbered)
    → slice_get (ranked_in key_of all) at ≡ Some ranked
    → (slice_get all at ≡ Some ranked.found) × (ranked.key ≡ (with_rank key_of (take at all) ranked.found).key)
rank_of key_of all at ranked here = by_place (slice_get all at) refl (sym (rank_at key_of [] all at) ∙ here)
  where
    by_place : (it : Option Numbered) → slice_get all at ≡ it → option_map (with_rank key_of (take at all)) it ≡ Some ranked
        → (slice_get all at ≡ Some ranked.found) × (ranked.key ≡ (with_rank key_of (take at all) ranked.found).key)
    by_place None there so = cc
    by_place (Some it) there so =
        let same : with_rank key_of (take at all) it ≡ ranked = cc in
        let found : it ≡ ranked.found = ap (λ (r : RankedNumbered). r.found) same in (
          there ∙ ap Some found,
          sym (ap (λ (r : RankedNumbered). r.key) same)
              ∙ ap (λ (n : Numbered). (with_rank key_of (take at all) n).key) found,
        )

-- The last one with a key has a place, and one with the key is found.
pub last_has_place : (key : Ranked) (all : List RankedNumbered) (found : Numbered) → last_with key all ≡ Some found
    → (at : ℕ) × (slice_get all at ≡ Some (record { key = key; found = found }))
last_has_place key [] found is = cc
last_has_place key (ranked ∷ all) found is = by_rest (last_has_place key all found) (last_with key all) refl is
  where
    here : is_ranked key ranked.key ≡ true → ranked.found ≡ found
        → slice_get (ranked ∷ all) 0 ≡ Some (record { key = key; found = found })
    here test same = ap₂ (λ (k : Ranked) (f : Numbered). Some (record { key = k; found = f })) (sym (same_ranked key ranked.key test)) same

    by_test : (test : Bool) → is_ranked key ranked.key ≡ test → cond test (Some ranked.found) None ≡ Some found
        → (at : ℕ) × (slice_get (ranked ∷ all) at ≡ Some (record { key = key; found = found }))
    by_test true test so = (0, here test (let same : ranked.found ≡ found = cc in same))
    by_test false test so = cc

    by_rest : (last_with key all ≡ Some found → (at : ℕ) × (slice_get all at ≡ Some (record { key = key; found = found })))
        → (rest : Option Numbered) → last_with key all ≡ rest → or_with key ranked rest ≡ Some found
        → (at : ℕ) × (slice_get (ranked ∷ all) at ≡ Some (record { key = key; found = found }))
    by_rest later None rest so = by_test (is_ranked key ranked.key) refl so
    by_rest later (Some last) rest so = let more = later (rest ∙ so) in (suc more.0, more.1)

pub is_found : (key : Ranked) (all : List RankedNumbered) (at : ℕ) (ranked : RankedNumbered)
    → slice_get all at ≡ Some ranked → ranked.key ≡ key → last_with key all ≡ None → ⊥
is_found key [] at ranked here same none = cc
is_found key (first ∷ all) zero ranked here same none = by_rest (last_with key all) refl none
  where
    test : is_ranked key first.key ≡ true
    test = let it : first ≡ ranked = cc in ap (is_ranked key) (ap (λ (r : RankedNumbered). r.key) it ∙ same) ∙ ranked_itself key

    by_rest : (rest : Option Numbered) → last_with key all ≡ rest → or_with key first rest ≡ None → ⊥
    by_rest None rest so = let got : Some first.found ≡ None = sym (ap (λ t. cond t (Some first.found) None) test) ∙ so in cc
    by_rest (Some later) rest so = cc
is_found key (first ∷ all) (suc at) ranked here same none =
    by_rest (is_found key all at ranked here same) (last_with key all) refl none
  where
    by_rest : (last_with key all ≡ None → ⊥) → (rest : Option Numbered) → last_with key all ≡ rest
        → or_with key first rest ≡ None → ⊥
    by_rest later None rest so = later rest
    by_rest later (Some last) rest so = cc

-- What is sought by its key and rank is the counterpart.
pub sought : (key_of : Numbered → Key) (events others : List Numbered) (at : ℕ) (found : Numbered) (counterpart : Option Numbered)
    → slice_get events at ≡ Some found
    → last_with (with_rank key_of (take at events) found).key (ranked_in key_of others) ≡ counterpart
    → IsCounterpart key_of events at others counterpart
sought key_of events others at found (Some other) here is =
    let key = (with_rank key_of (take at events) found).key in
    let last = last_has_place key (ranked_in key_of others) other is in
    let placed = by_place last.0 (slice_get others last.0) refl (sym (rank_at key_of [] others last.0) ∙ last.1) in (
      last.0,
      placed.0,
      record {
        one = found;
        other = other;
        here = here;
        there = placed.0;
        one_key = ap (λ (k : Ranked). k.key) (sym placed.1);
        as_many = ap (λ (k : Ranked). k.rank) (sym placed.1);
      },
    )
  where
    by_place : (place : ℕ) (it : Option Numbered) → slice_get others place ≡ it
        → option_map (with_rank key_of ([] ++ take place others)) it
        ≡ Some (record { key = (with_rank key_of (take at events) found).key; found = other })
        → (slice_get others place ≡ Some other)
        × ((with_rank key_of (take place others) other).key ≡ (with_rank key_of (take at events) found).key)
    by_place place None there so = cc
    by_place place (Some it) there so =
        let ranked : with_rank key_of (take place others) it
        ≡ record { key = (with_rank key_of (take at events) found).key; found = other } = cc in
        let same : it ≡ other = ap (λ (r : RankedNumbered). r.found) ranked in (
          there ∙ ap Some same,
          ap (λ (n : Numbered). (with_rank key_of (take place others) n).key) (sym same) ∙ ap (λ (r : RankedNumbered). r.key) ranked,
        )
sought key_of events others at found None here is = λ place are.
    let one : found ≡ are.one = let so : Some found ≡ Some are.one = sym here ∙ are.here in cc in
    is_found (with_rank key_of (take at events) found).key (ranked_in key_of others) place
    (with_rank key_of (take place others) are.other)
    (rank_at key_of [] others place ∙ ap (option_map (with_rank key_of (take place others))) are.there)
    (ap₂ (λ (k : Key) (n : ℕ). let ranked : Ranked = record { key = k; rank = n } in ranked)
    (sym are.one_key ∙ ap key_of (sym one))
    (sym are.as_many ∙ ap (λ (o : Numbered). how_many key_of (key_of o) (take at events)) (sym one))) is
