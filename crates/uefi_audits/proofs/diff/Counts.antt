-- How many of the events so far have a key, and the event that a key has, by maps.
use Rattle.std.proofs.Common.{◌≡◌, ◌∙◌, ℕ, ◌+◌, ◌<◌, ◌≤◌, List, [], ◌∷◌, ◌++◌, get_or, length, length-take, map, take, add-zero, ap, ap₂, arith, refl, subst, sym}
use Rattle.std.specs.Prelude.{Bool, true, false, cond, Option, None, Some, option_map, slice_get, unwrap_or}
use Rattle.std.specs.Borrow.{Bor}
use Rattle.std.specs.BTreeMap.{BTreeMap, get}
use Rattle.std.specs.Ordering.{is_eq}
use Rattle.std.specs.declared.cmp.Ordering.{Ordering}
use Rattle.std.proofs.lemmas.List.{length-map, map-append, map_more}
use Rattle.std.proofs.lemmas.List.Sums.{count_by-le-length, sum_by_push}
use Rattle.std.proofs.lemmas.Option.{slice_get-map}
use Rattle.uefi_audits.specs.declared.diff.counterparts.RankedEvent.{RankedEvent}
use Rattle.uefi_audits.specs.declared.diff.event_key.EventKey.{EventKey}
use Rattle.uefi_audits.specs.declared.diff.event_key.RankedKey.{RankedKey}
use Rattle.uefi_audits.specs.declared.diff.pcr.NumberedEntry.{NumberedEntry}
use Rattle.uefi_audits.specs.diff.Counterparts.{ArePaired, IsCounterpart, Key, Paired, how_many, is_key, key_cmp}
use Rattle.uefi_audits.specs.diff.Numbered.{Numbered}
use Rattle.uefi_audits.specs.private.diff.Keys.{keyed, ranked_of}
use Rattle.uefi_audits.specs.private.diff.Ranks.{ArePlaces, RankedNumbered, event_of, is_ranked, last_with, numbered_at, paired_by, place_cmp, ranked_after, ranked_in, with_rank}
use Rattle.uefi_audits.proofs.diff.Orders.{same_key}
use Rattle.uefi_audits.proofs.diff.Ranks.{last_more, rank_of, ranked_more, sought}

abbrev pub count_cmp : EventKey → EventKey → Ordering
count_cmp key other = key_cmp (keyed key) (keyed other)

-- The counts are those of these events.
abbrev pub count_at : BTreeMap EventKey ℕ → EventKey → ℕ
count_at counts key = unwrap_or (get count_cmp counts key) 0

abbrev pub AreCounts : (Numbered → Key) → BTreeMap EventKey ℕ → List Numbered → Type 0
AreCounts key_of counts all = (key : EventKey) → count_at counts key ≡ how_many key_of (keyed key) all

pub no_counts : (key_of : Numbered → Key) (counts : BTreeMap EventKey ℕ) → counts.entries ≡ [] → AreCounts key_of counts []
no_counts key_of counts none key = rw none refl

-- One more event.
counts_more : (key_of : Numbered → Key) (all : List Numbered) (found : Numbered) (old new : BTreeMap EventKey ℕ)
    (key : EventKey) (rank : ℕ) → keyed key ≡ key_of found → rank ≡ count_at old key
    → ((q : EventKey) → get count_cmp new q ≡ cond (is_eq (count_cmp key q)) (Some (rank + 1)) (get count_cmp old q))
    → AreCounts key_of old all → AreCounts key_of new (all ++ found ∷ [])
counts_more key_of all found old new key rank its is update before = λ q.
    ap (λ it. unwrap_or it 0) (update q) ∙ by_test q (is_key (keyed q) (keyed key)) refl
    ∙ ap (λ k. how_many key_of (keyed q) all + cond (is_key (keyed q) k) 1 0) its
    ∙ sym (sum_by_push (λ (it : Numbered). cond (is_key (keyed q) (key_of it)) 1 0) all found)
  where
    by_test : (q : EventKey) (test : Bool) → is_key (keyed q) (keyed key) ≡ test
        → unwrap_or (cond test (Some (rank + 1)) (get count_cmp old q)) 0
        ≡ how_many key_of (keyed q) all + cond test 1 0
    by_test q true same =
        ap (λ n. n + 1) (is ∙ before key
        ∙ ap (λ k. how_many key_of k all) (sym (same_key (keyed q) (keyed key) same)))
    by_test q false other = before q ∙ sym (add-zero (how_many key_of (keyed q) all))

-- One more of a list, with its rank.
pub count_more : (key_of : Numbered → Key) (all : List (Bor NumberedEntry)) (index : ℕ) (item : Bor NumberedEntry)
    (old new : BTreeMap EventKey ℕ) (key : EventKey) (rank : ℕ) → index < length all → item ≡ get_or all index item
    → keyed key ≡ key_of (numbered_at item) → rank ≡ count_at old key
    → ((q : EventKey) → get count_cmp new q ≡ cond (is_eq (count_cmp key q)) (Some (rank + 1)) (get count_cmp old q))
    → AreCounts key_of old (map numbered_at (take index all))
    → AreCounts key_of new (map numbered_at (take (index + 1) all))
count_more key_of all index item old new key rank within here its is update before =
    subst (AreCounts key_of new)
    (ap (λ (it : Bor NumberedEntry). map numbered_at (take index all) ++ numbered_at it ∷ []) here
    ∙ sym (map_more numbered_at all index item within))
    (counts_more key_of (map numbered_at (take index all)) (numbered_at item) old new key rank its is update before)

pub rank_more : (key_of : Numbered → Key) (all : List (Bor NumberedEntry)) (index : ℕ) (item : Bor NumberedEntry)
    (counts : BTreeMap EventKey ℕ) (key : EventKey) (rank : ℕ) (found new : List RankedEvent) → index < length all
    → item ≡ get_or all index item → keyed key ≡ key_of (numbered_at item) → rank ≡ count_at counts key
    → AreCounts key_of counts (map numbered_at (take index all))
    → map event_of found ≡ ranked_in key_of (map numbered_at (take index all))
    → new ≡ found ++ record { key = record { key = key; rank = rank }; found = item } ∷ []
    → map event_of new ≡ ranked_in key_of (map numbered_at (take (index + 1) all))
rank_more key_of all index item counts key rank found new within here its is are before pushed =
    let so_far = map numbered_at (take index all) in
    let one : RankedEvent = record { key = record { key = key; rank = rank }; found = item } in
    let ranked : event_of one ≡ with_rank key_of so_far (numbered_at item) =
    ap₂ (λ (k : Key) (n : ℕ). let it : RankedNumbered = record { key = record { key = k; rank = n }; found = numbered_at item } in it)
    its (is ∙ are key ∙ ap (λ k. how_many key_of k so_far) its) in
    ap (map event_of) pushed ∙ map-append event_of found (one ∷ [])
    ∙ ap₂ (λ front last. front ++ last ∷ []) before ranked
    ∙ sym (ranked_more key_of so_far (numbered_at item))
    ∙ ap (ranked_in key_of) (ap (λ (it : Bor NumberedEntry). so_far ++ numbered_at it ∷ []) here
    ∙ sym (map_more numbered_at all index item within))

-- There are no more of a key than events.
pub rank_fits : (key_of : Numbered → Key) (all : List (Bor NumberedEntry)) (index : ℕ) (counts : BTreeMap EventKey ℕ)
    (key : EventKey) (rank : ℕ) → rank ≡ count_at counts key → AreCounts key_of counts (map numbered_at (take index all))
    → rank ≤ index
rank_fits key_of all index counts key rank is are =
    let most = count_by-le-length (λ (found : Numbered). is_key (keyed key) (key_of found)) (map numbered_at (take index all)) in
    let few : length (map numbered_at (take index all)) ≤ index = simp (length-map, length-take) (omega arith) in
    omega (arith, is, are key, most, few)

-- The events by their keys: none yet, and one more.
pub no_places : (places : BTreeMap RankedKey (Bor NumberedEntry)) → places.entries ≡ [] → ArePlaces places []
no_places places none key = rw none refl

pub places_more : (places new : BTreeMap RankedKey (Bor NumberedEntry)) (all : List RankedEvent) (index : ℕ) (item : RankedEvent)
    → index < length all → item ≡ get_or all index item
    → ((q : RankedKey) → get place_cmp new q ≡ cond (is_eq (place_cmp item.key q)) (Some item.found) (get place_cmp places q))
    → ArePlaces places (map event_of (take index all)) → ArePlaces new (map event_of (take (index + 1) all))
places_more places new all index item within here update before =
    subst (ArePlaces new)
    (ap (λ (it : RankedEvent). map event_of (take index all) ++ event_of it ∷ []) here
    ∙ sym (map_more event_of all index item within))
    (λ q. ap (option_map numbered_at) (update q)
    ∙ by_test q (is_ranked (ranked_of q) (ranked_of item.key)) refl
    ∙ sym (last_more (ranked_of q) (map event_of (take index all)) (event_of item)))
  where
    by_test : (q : RankedKey) (test : Bool) → is_ranked (ranked_of q) (ranked_of item.key) ≡ test
        → option_map numbered_at (cond test (Some item.found) (get place_cmp places q))
        ≡ cond test (Some (numbered_at item.found)) (last_with (ranked_of q) (map event_of (take index all)))
    by_test q true same = refl
    by_test q false other = before q

-- Each event with what the map has at its key.
pub are_paired : (key_of : Numbered → Key) (events others : List Numbered) (places : BTreeMap RankedKey (Bor NumberedEntry))
    (ranked other_ranked : List RankedEvent) (all : List Paired) → map event_of ranked ≡ ranked_in key_of events
    → map event_of other_ranked ≡ ranked_in key_of others → ArePlaces places (map event_of other_ranked)
    → all ≡ map (paired_by places) ranked → ArePaired key_of events others all
are_paired key_of events others places ranked other_ranked all of_events of_others are is = record {
  events = ap (map (λ (p : Paired). p.found)) is ∙ both ranked ∙ ap (map (λ (r : RankedNumbered). r.found)) of_events
      ∙ each_found [] events;
  counterparts = λ at paired here. one at paired (slice_get ranked at) refl
      (sym (slice_get-map (paired_by places) ranked at) ∙ sym (ap (λ them. slice_get them at) is) ∙ here);
}
  where
    both : (ranked : List RankedEvent) → map (λ (p : Paired). p.found) (map (paired_by places) ranked)
        ≡ map (λ (r : RankedNumbered). r.found) (map event_of ranked)
    both [] = refl
    both (r ∷ rest) = ap (λ them. numbered_at r.found ∷ them) (both rest)

    each_found : (before events : List Numbered)
        → map (λ (r : RankedNumbered). r.found) (ranked_after key_of before events) ≡ events
    each_found before [] = refl
    each_found before (found ∷ more) = ap (λ them. found ∷ them) (each_found (before ++ found ∷ []) more)

    one : (at : ℕ) (paired : Paired) (got : Option RankedEvent) → slice_get ranked at ≡ got
        → option_map (paired_by places) got ≡ Some paired → IsCounterpart key_of events at others paired.counterpart
    one at paired None there so = cc
    one at paired (Some it) there so =
        let same : paired_by places it ≡ paired = cc in
        let there_too : slice_get (ranked_in key_of events) at ≡ Some (event_of it) =
        sym (ap (λ them. slice_get them at) of_events) ∙ slice_get-map event_of ranked at ∙ ap (option_map event_of) there in
        let placed = rank_of key_of events at (event_of it) there_too in
        sought key_of events others at (event_of it).found paired.counterpart placed.0
        (ap (λ key. last_with key (ranked_in key_of others)) (sym placed.1)
        ∙ ap (last_with (event_of it).key) (sym of_others) ∙ sym (are it.key) ∙ ap (λ (p : Paired). p.counterpart) same)
