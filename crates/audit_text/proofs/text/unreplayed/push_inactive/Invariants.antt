use Rattle.std.proofs.Common.{take}
use Rattle.std.specs.Prelude.{flat_map}
use Rattle.uefi_base.specs.Appending.{AppendsText}
use Rattle.audit_text.specs.text.Remarks.{inactive_line}
use Rattle.audit_text.proofs.text.unreplayed.push_inactive.Given as goal

-- The lines of the banks so far were appended.
abbrev pub invariant-loop-bank : goal.invariant-loop-bank
invariant-loop-bank g l =
    AppendsText l.initial.messages l.messages (flat_map (inactive_line l.name) (take l.bank-index l.banks))
