use Rattle.std.proofs.Common.{true, sym, ap, ◌≡◌, Bool, List, [], ◌∷◌, ◌++◌, append_assoc, filter, length, map}
use Rattle.std.specs.Prelude.{◌==◌, count_by}
use Rattle.std.proofs.lemmas.List.{append-nil, length-map, map-append}
use Rattle.std.proofs.lemmas.List.Sums.{length-filter}
use Rattle.uefi_tcg.specs.v2.Event.{Event}
use Rattle.uefi_tcg.specs.v2.Views.{event_of}
use Rattle.uefi_examples.proofs.contracts.pcr.events_of_pcr.Goals as goal

-- The first of the events to come is found if it passes.
found_more : (test : Event → Bool) (found left rest all : List Event) (event : Event) → left ≡ event ∷ rest
    → test event ≡ true
    → found ++ filter test left ≡ all → found ++ event ∷ [] ++ filter test rest ≡ all
found_more test found left rest all event is tested so_far = simp append_assoc (simp (is, tested) at so_far)

pub loop-event-preserved-in-Continue-1 : goal.loop-event-preserved-in-Continue-1
loop-event-preserved-in-Continue-1 c =
    let test : Event → Bool = λ event. event.pcr_index == c.args.pcr.0 in
    let passes : test (event_of c.in-Some.event) ≡ true = sym (rw c.pcr_index.ensures at c.if-eq.ensures) in
    simp (c.in_ok-push.ensures.items, map-append)
    (found_more test _ _ _ _ _ c.in-Some.ensures.steps passes c.loop-event.invariant)

-- As many are found as pass.
counted : {A : Type 0} (view : A → Event) (test : Event → Bool) (log : List Event) (events : List A)
    → map view events ≡ filter test log → length events ≡ count_by test log
counted view test log events is = rw
    (length-map, length-filter) at (let lengths : length (map view events) ≡ length (filter test log) =
    ap length is in lengths)

pub returns-clause-count : goal.returns-clause-count
returns-clause-count c =
    let log : List Event = c.iter-event-items.result.events in
    let found = simp (c.in-None.ensures.steps.0, append-nil, c.into_iter-event-iterator.ensures.into_iter_gives)
    at c.loop-event.invariant in (
      log,
      rw c.new-log.ensures at c.iter-event-items.ensures.log,
      counted event_of (λ event. event.pcr_index == c.args.pcr.0) log _ found,
    )
