use Rattle.std.proofs.Common.{subst, sym, ◌≡◌, ℕ, List, map, drop}
use Rattle.std.specs.Prelude.{Option, Some, None}
use Rattle.std.specs.List.{concat}
use Rattle.std.proofs.lemmas.Result.{IfOk-weaker}
use Rattle.uefi_base.specs.Prefix.{IsPrefix}
use Rattle.uefi_tcg.specs.v2.Event.{Event, event_bytes}
use Rattle.uefi_tcg.specs.v2.Header.{Header, HasHeader, HeaderEvent, after_header, events_start}
use Rattle.uefi_tcg.specs.v2.Laws.{OneLog}
use Rattle.uefi_tcg.specs.v2.Log.{IsLog}
use Rattle.uefi_examples.proofs.digest_logs.all_bytes.Goals as goal

-- The encodings of a log's events, joined, are in the bytes from the end of its header on.
joined_stand : OneLog → (bytes : List ℕ) (last_entry : ℕ) (found : Option HeaderEvent) (log : List Event)
    → IsLog after_header bytes last_entry found log → (header : Header) → HasHeader bytes last_entry header
    → IsPrefix (concat (map event_bytes log)) (drop (events_start header) bytes)
joined_stand law bytes last_entry None log is header has = absurd (is.0 header has)
joined_stand law bytes last_entry (Some found) log is header has =
    let same : found.header ≡ header = law.header bytes last_entry found.header header (found.event, is.0) has in
    subst (λ (h : Header). IsPrefix (concat (map event_bytes log)) (drop (events_start h) bytes)) same
    is.1.all_keep.keep.in_bytes

pub returns-clause-in_log : goal.returns-clause-in_log
returns-clause-in_log c = IfOk-weaker c.joined_bytes.result _ _
    (λ joined log header has.
    subst (λ (t : List ℕ). IsPrefix t (drop (events_start header) c.args.bytes.now)) (sym log.2)
    (joined_stand c.one_log_v2.ensures c.args.bytes.now c.args.last_entry log.1.0 log.0 log.1.1 header has))
    c.joined_bytes.ensures
