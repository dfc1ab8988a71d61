-- Logs of version 1 in a caller: a log with what it is of, and one step of an iterator over it.
use Rattle.std.proofs.Common.{◌≡◌, ◌∙◌, ℕ, ◌+◌, List, [], ◌∷◌, Option, None, Some, sym, ap, subst}
use Rattle.std.specs.Prelude.{MatchOption}
use Rattle.uefi_tcg.specs.declared.v1.event.PcrEvent.{PcrEvent}
use Rattle.uefi_tcg.specs.v1.Event.{Event}
use Rattle.uefi_tcg.specs.v1.Iteration.{Iteration, KeepsNext}
use Rattle.uefi_tcg.specs.v1.Laws.{IsLocal, LastEndsAt, Logged, OneLog, SameUpTo}
use Rattle.uefi_tcg.specs.v1.Log.{EventsKeep, IsLog}
use Rattle.uefi_tcg.specs.v1.Views.{event_of}

-- The iteration goes over these bytes with this last entry, and the next event starts at this offset.
abbrev pub IsAt : ℕ → ℕ → List ℕ → Iteration → Type 0
IsAt offset last_entry bytes it = (it.bytes ≡ bytes) × (it.last_entry ≡ last_entry) × (it.offset ≡ offset)

-- The log of these bytes with this last entry.
abbrev pub log_of : (bytes : List ℕ) (last_entry : ℕ) (events : List Event) → IsLog bytes last_entry events → Logged
log_of bytes last_entry events is_log =
    record { bytes = bytes; last_entry = last_entry; events = events; is_log = is_log }

-- A log whose last event starts at the last entry is the log of other bytes that are the same up to that event's end.
pub same_again : OneLog → IsLocal → (log earlier : Logged) (end : ℕ) → LastEndsAt end earlier
    → SameUpTo end earlier.bytes log.bytes → earlier.last_entry ≡ log.last_entry → log.events ≡ earlier.events
same_again one local log earlier end ends same entry =
    one.one log.bytes log.last_entry log.events earlier.events log.is_log
    (subst (λ (l : ℕ). IsLog log.bytes l earlier.events) entry (local.same earlier end log.bytes ends same))

-- An event that keeps alone where an iteration stands keeps alone in the log's bytes, and the other way round.
pub keeps_there : (offset l : ℕ) (b : List ℕ) (it : Iteration) (event : Event) → IsAt offset l b it
    → KeepsNext it event → EventsKeep (event ∷ []) offset l b
keeps_there offset l b it event at keeps =
    subst (λ (s : ℕ). EventsKeep (event ∷ []) s l b) at.2
    (subst (λ (m : ℕ). EventsKeep (event ∷ []) it.offset m b) at.1
    (subst (λ (x : List ℕ). EventsKeep (event ∷ []) it.offset it.last_entry x) at.0 keeps))

keeps_here : (offset l : ℕ) (b : List ℕ) (it : Iteration) (event : Event) → IsAt offset l b it
    → EventsKeep (event ∷ []) offset l b → KeepsNext it event
keeps_here offset l b it event at keeps =
    subst (λ (s : ℕ). EventsKeep (event ∷ []) s it.last_entry it.bytes) (sym at.2)
    (subst (λ (m : ℕ). EventsKeep (event ∷ []) offset m it.bytes) (sym at.1)
    (subst (λ (x : List ℕ). EventsKeep (event ∷ []) offset l x) (sym at.0) keeps))

-- What one step says of the iteration it says of the log's bytes.
pub step_there : (offset l : ℕ) (b : List ℕ) (it : Iteration) (result : Option PcrEvent) → IsAt offset l b it
    → MatchOption result ((event : Event) → KeepsNext it event → ⊥) (λ event. KeepsNext it (event_of event))
    → MatchOption result ((event : Event) → EventsKeep (event ∷ []) offset l b → ⊥)
    (λ event. EventsKeep (event_of event ∷ []) offset l b)
step_there offset l b it None at none = λ event keeps. none event (keeps_here offset l b it event at keeps)
step_there offset l b it (Some event) at keeps = keeps_there offset l b it (event_of event) at keeps

-- An iterator of a log goes on where the event before ended.
pub moved_on : (offset l n : ℕ) (b : List ℕ) (it next : Iteration) → IsAt offset l b it → next.bytes ≡ it.bytes
    → next.last_entry ≡ it.last_entry → next.offset ≡ it.offset + n
    → IsAt (offset + n) l b next
moved_on offset l n b it next at bytes entry moved = (bytes ∙ at.0, entry ∙ at.1, moved ∙ ap (λ (s : ℕ). s + n) at.2)
