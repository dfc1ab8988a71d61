use Rattle.std.proofs.Common.{map, string_bytes}
use Rattle.uefi_tcg.specs.LogViews.{entry_of}
use Rattle.audit_text.specs.json.Events.{IsWholeLine}
use Rattle.audit_text.proofs.words.Events.{ShownSoFar}
use Rattle.audit_text.proofs.json.events.push_events.Given as goal

-- What was appended so far and what is shown of the events to come is what is shown of all.
abbrev pub invariant-loop-index : goal.invariant-loop-index
invariant-loop-index l =
    ShownSoFar (IsWholeLine l.uintn_size l.name) (string_bytes l.initial.text) (string_bytes l.text) l.index (map entry_of l.entries)
