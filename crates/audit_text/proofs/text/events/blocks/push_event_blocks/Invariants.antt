use Rattle.std.proofs.Common.{map, string_bytes}
use Rattle.uefi_tcg.specs.LogViews.{entry_of}
use Rattle.audit_text.specs.text.Events.{IsEventBlock}
use Rattle.audit_text.proofs.words.Events.{ShownSoFar}
use Rattle.audit_text.proofs.text.events.blocks.push_event_blocks.Given as goal

-- What was appended so far and what is shown of the events to come is what is shown of all.
abbrev pub invariant-loop-index : goal.invariant-loop-index
invariant-loop-index l =
    ShownSoFar (IsEventBlock l.uintn_size l.name) (string_bytes l.initial.text) (string_bytes l.text) l.index (map entry_of l.entries)
