use Rattle.std.proofs.Common.{subst, sym, ◌≡◌, ℕ, List}
use Rattle.std.specs.Prelude.{Option, Some, None}
use Rattle.std.proofs.lemmas.Result.{IfOk-weaker}
use Rattle.uefi_base.specs.Prefix.{IsPrefix}
use Rattle.uefi_tcg.specs.v2.Event.{Event}
use Rattle.uefi_tcg.specs.v2.Header.{Header, HasHeader, HeaderEvent, after_header, events_start}
use Rattle.uefi_tcg.specs.v2.Laws.{OneLog}
use Rattle.uefi_tcg.specs.v2.Log.{EventsKeep, IsLog}
use Rattle.uefi_examples.proofs.digest_logs.every_event.Goals as goal

-- A list that keeps under a header is a prefix of the log, whose header is that one.
every : OneLog → (bytes : List ℕ) (last_entry : ℕ) (found : Option HeaderEvent) (log : List Event)
    → IsLog after_header bytes last_entry found log → (header : Header) (others : List Event)
    → HasHeader bytes last_entry header → EventsKeep header.table others (events_start header) last_entry bytes
    → IsPrefix others log
every law bytes last_entry None log is header others has keep = absurd (is.0 header has)
every law bytes last_entry (Some found) log is header others has keep =
    let same : found.header ≡ header = law.header bytes last_entry found.header header (found.event, is.0) has in
    law.every after_header bytes last_entry found log others is
    (subst (λ (h : Header). EventsKeep h.table others (events_start h) last_entry bytes) (sym same) keep)

pub returns : goal.returns
returns c = IfOk-weaker c.collected_events.result _ _
    (λ events log. every c.one_log_v2.ensures _ _ log.0 _ log.1) c.collected_events.ensures
