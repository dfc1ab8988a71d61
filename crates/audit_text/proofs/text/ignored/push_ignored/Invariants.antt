use Rattle.std.proofs.Common.{take}
use Rattle.std.specs.Prelude.{flat_map}
use Rattle.uefi_base.specs.Appending.{AppendsText}
use Rattle.audit_text.specs.text.Remarks.{ignored_line}
use Rattle.audit_text.proofs.text.ignored.push_ignored.Given as goal

-- The lines of the events so far were appended.
abbrev pub invariant-loop-event : goal.invariant-loop-event
invariant-loop-event g l =
    AppendsText l.initial.messages l.messages (flat_map (ignored_line l.name) (take l.event-index l.events))
