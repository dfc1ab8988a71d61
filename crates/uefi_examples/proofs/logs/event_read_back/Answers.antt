use Rattle.std.proofs.Common.{arith, refl, sym, subst, ◌∙◌, ap, ◌≡◌, ◌+◌, ℕ, List, [], ◌∷◌, length, take, drop}
use Rattle.std.specs.Prelude.{Option, Some, None, IfSome, IsSome}
use Rattle.std.specs.Iterator.{YieldsFirstBy}
use Rattle.std.proofs.lemmas.List.{length-append, take_at}
use Rattle.uefi_base.specs.Buffer.{put_prefix}
use Rattle.uefi_tcg.specs.declared.event_type.TheConstants.EventType.{IPL}
use Rattle.uefi_tcg.specs.LogInput.{LogInput}
use Rattle.uefi_tcg.specs.v1.Event.{Event, IsEvent, event_bytes, header_length}
use Rattle.uefi_tcg.specs.v1.Laws.{OneLog, WrittenIsLog}
use Rattle.uefi_tcg.specs.v1.Log.{IsLog, IsLogOf}
use Rattle.uefi_tcg.specs.v1.Views.{event_of}
use Rattle.uefi_tcg.specs.v1.Writing.{event_given}
use Rattle.uefi_examples.proofs.logs.event_read_back.Goals as goal

-- An event's encoding is its header and its data.
length-event_bytes : (event : Event) → IsEvent event
    → length (event_bytes event) ≡ header_length + length event.event_data
unfolding event_bytes
length-event_bytes event is = simp length-append (omega (arith, is.digest))

-- The bytes of an event that was written to a buffer.
written_bytes : (event : Event) (old new : List ℕ) (end : ℕ) → IsEvent event
    → end ≡ header_length + length event.event_data → new ≡ put_prefix (event_bytes event) old
    → take end new ≡ event_bytes event
written_bytes event old new end is covers written =
    ap (take end) written ∙ take_at (event_bytes event) (drop (length (event_bytes event)) old) end
    (length-event_bytes event is ∙ sym covers)

-- The log of these bytes is the event alone.
log_alone : OneLog → WrittenIsLog → (event : Event) (bytes : List ℕ) (log : List Event) → IsEvent event
    → bytes ≡ event_bytes event → IsLog bytes 0 log → log ≡ event ∷ []
log_alone law written event bytes log is same is_log =
    law.one bytes 0 log (event ∷ []) is_log (subst (λ bs. IsLog bs 0 (event ∷ [])) (sym same) (written event is))

-- An iterator with one item left yields it.
yields : {S A B : Type 0} (view : A → B) (rest : S → List B) (before after : S) (item : Option A) (only : B)
    → YieldsFirstBy view rest before item after → rest before ≡ only ∷ []
    → IsSome item × IfSome item (λ x. view x ≡ only)
yields view rest before after None only yielded left = let no : [] ≡ only ∷ [] = sym yielded.0 ∙ left in cc
yields view rest before after (Some x) only yielded left = let first : view x ∷ rest after ≡ only ∷ [] = sym yielded
    ∙ left in (refl, cc)

-- The iterator yields the event that was written.
read : (c : goal.After-next) → IsSome c.next.result
    × IfSome c.next.result
    (λ event. event_of event ≡ event_given c.args.pcr IPL c.args.digest c.args.event_data.now)
read c =
    let wrote = c.in-Ok.ensures in
    let log = subst (λ (input : LogInput). IsLogOf input.bytes input.last_entry c.iter.result.events) c.new.ensures
    c.iter.ensures.log in
    let bytes = written_bytes _ _ _ _ wrote.is_event wrote.end wrote.written in
    yields event_of (λ iter. iter.events) c.iter.result c.next.new.self c.next.result _ c.next.ensures.first
    (log_alone c.one_log_v1.ensures c.written_event.ensures _ _ _ wrote.is_event bytes log)

pub returns-clause-event : goal.returns-clause-event
returns-clause-event c = (read c).1

pub returns-clause-fits : goal.returns-clause-fits
returns-clause-fits c = ((λ _. c.in-Ok.ensures.fits.0 refl), (λ _. (read c).0))
