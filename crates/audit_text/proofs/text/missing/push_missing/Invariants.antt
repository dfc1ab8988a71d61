use Rattle.std.proofs.Common.{take}
use Rattle.uefi_base.specs.Appending.{AppendsText}
use Rattle.audit_text.specs.text.Missing.{missing_lines}
use Rattle.audit_text.proofs.text.missing.push_missing.Given as goal

-- The lines of the PCRs before the index were appended.
abbrev pub invariant-loop-pcr : goal.invariant-loop-pcr
invariant-loop-pcr g l =
    AppendsText l.initial.messages l.messages (missing_lines l.name (take l.pcr-index l.missing))
