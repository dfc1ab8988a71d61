-- Logs of version 2 in a caller: a log with what it is of, and one step of an iterator over it.
use Rattle.std.proofs.Common.{◌≡◌, ◌∙◌, ℕ, ◌+◌, ◌≤◌, List, [], ◌∷◌, Option, None, Some, sym, ap, subst}
use Rattle.std.specs.Prelude.{MatchOption, Result, IfOk}
use Rattle.std.proofs.lemmas.Result.{IfOk-weaker}
use Rattle.uefi_base.specs.Prefix.{IsPrefix}
use Rattle.uefi_tcg.specs.declared.v2.event.PcrEvent.{PcrEvent}
use Rattle.uefi_tcg.specs.v1.Laws.{SameUpTo}
use Rattle.uefi_tcg.specs.v2.Event.{Event, Table}
use Rattle.uefi_tcg.specs.v2.Header.{HeaderEvent, Start}
use Rattle.uefi_tcg.specs.v2.Iteration.{Iteration, KeepsNext}
use Rattle.uefi_tcg.specs.v2.Laws.{IsLocal, LastEndsAt, Logged, OneLog}
use Rattle.uefi_tcg.specs.v2.Log.{EventsKeep, IsLog}
use Rattle.uefi_tcg.specs.v2.Views.{event_of}

-- The iteration goes over these bytes with this last entry and this table, and the next event starts at this offset.
abbrev pub IsAt : Table → ℕ → ℕ → List ℕ → Iteration → Type 0
IsAt table offset last_entry bytes it =
    (it.bytes ≡ bytes) × (it.last_entry ≡ last_entry) × (it.table ≡ table) × (it.offset ≡ offset)

-- The log of these bytes with this last entry.
abbrev pub log_of : (start : Start) (bytes : List ℕ) (last_entry : ℕ) (events : List Event)
    → ((found : Option HeaderEvent) × IsLog start bytes last_entry found events) → Logged start
log_of start bytes last_entry events log =
    record { bytes = bytes; last_entry = last_entry; found = log.0; events = events; is_log = log.1 }

-- A log whose last event starts at the last entry is the log of other bytes that are the same up to that event's end.
pub same_again : OneLog → IsLocal → (start : Start) (log earlier : Logged start) (end : ℕ)
    → LastEndsAt start end earlier
    → SameUpTo end earlier.bytes log.bytes → earlier.last_entry ≡ log.last_entry → log.events ≡ earlier.events
same_again one local start log earlier end ends same entry =
    (one.one start log.bytes log.last_entry log.found earlier.found log.events earlier.events log.is_log
    (subst (λ (l : ℕ). IsLog start log.bytes l earlier.found earlier.events) entry
    (local.same start earlier end log.bytes ends same))).1

-- So a log that was read again has the events that it had, and for later last entries it begins with them.
module _ {V E : Type 0} (result : Result V E) (events_of : V → List Event) (start : Start) (bytes : List ℕ)
    (last_entry : ℕ)
    (logs : IfOk result (λ read. (found : Option HeaderEvent)
    × IsLog start bytes last_entry found (events_of read))) where
  pub has_same : OneLog → IsLocal → IfOk result (λ read. (earlier : Logged start) (end : ℕ)
      → LastEndsAt start end earlier → SameUpTo end earlier.bytes bytes → earlier.last_entry ≡ last_entry
      → events_of read ≡ earlier.events)
  has_same one local = IfOk-weaker result _ _
      (λ read log. same_again one local start (log_of start bytes last_entry (events_of read) log)) logs

  pub begins_with : IsLocal → IfOk result (λ read. (earlier : Logged start) (end : ℕ)
      → LastEndsAt start end earlier → SameUpTo end earlier.bytes bytes → end ≤ last_entry
      → IsPrefix earlier.events (events_of read))
  begins_with local = IfOk-weaker result _ _
      (λ read log earlier end ends same later. (local.longer start earlier
      (log_of start bytes last_entry (events_of read) log) end ends same later).1) logs

-- An event that keeps alone where an iteration stands keeps alone in the log's bytes, and the other way round.
pub keeps_there : (table : Table) (offset l : ℕ) (b : List ℕ) (it : Iteration) (event : Event)
    → IsAt table offset l b it
    → KeepsNext it event → EventsKeep table (event ∷ []) offset l b
keeps_there table offset l b it event at keeps =
    subst (λ (t : Table). EventsKeep t (event ∷ []) offset l b) at.2
    (subst (λ (s : ℕ). EventsKeep it.table (event ∷ []) s l b) at.3
    (subst (λ (m : ℕ). EventsKeep it.table (event ∷ []) it.offset m b) at.1
    (subst (λ (x : List ℕ). EventsKeep it.table (event ∷ []) it.offset it.last_entry x) at.0 keeps)))

keeps_here : (table : Table) (offset l : ℕ) (b : List ℕ) (it : Iteration) (event : Event) → IsAt table offset l b it
    → EventsKeep table (event ∷ []) offset l b → KeepsNext it event
keeps_here table offset l b it event at keeps =
    subst (λ (t : Table). EventsKeep t (event ∷ []) it.offset it.last_entry it.bytes) (sym at.2)
    (subst (λ (s : ℕ). EventsKeep table (event ∷ []) s it.last_entry it.bytes) (sym at.3)
    (subst (λ (m : ℕ). EventsKeep table (event ∷ []) offset m it.bytes) (sym at.1)
    (subst (λ (x : List ℕ). EventsKeep table (event ∷ []) offset l x) (sym at.0) keeps)))

-- What one step says of the iteration it says of the log's bytes.
pub step_there : (table : Table) (offset l : ℕ) (b : List ℕ) (it : Iteration) (result : Option PcrEvent)
    → IsAt table offset l b it
    → MatchOption result ((event : Event) → KeepsNext it event → ⊥) (λ event. KeepsNext it (event_of event))
    → MatchOption result ((event : Event) → EventsKeep table (event ∷ []) offset l b → ⊥)
    (λ event. EventsKeep table (event_of event ∷ []) offset l b)
step_there table offset l b it None at none = λ event keeps. none event (keeps_here table offset l b it event at keeps)
step_there table offset l b it (Some event) at keeps = keeps_there table offset l b it (event_of event) at keeps

-- An iterator of a log goes on where the event before ended.
pub moved_on : (table : Table) (offset l n : ℕ) (b : List ℕ) (it next : Iteration) → IsAt table offset l b it
    → next.bytes ≡ it.bytes → next.table ≡ it.table → next.last_entry ≡ it.last_entry → next.offset ≡ it.offset + n
    → IsAt table (offset + n) l b next
moved_on table offset l n b it next at bytes rows entry moved =
    (bytes ∙ at.0, entry ∙ at.1, rows ∙ at.2, moved ∙ ap (λ (s : ℕ). s + n) at.3)
