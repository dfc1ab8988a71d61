use Rattle.std.proofs.Common.{take}
use Rattle.std.specs.Prelude.{flat_map}
use Rattle.uefi_base.specs.Appending.{AppendsText}
use Rattle.audit_text.specs.text.Verdict.{line_of}
use Rattle.uefi_audits.specs.verify.Verdict.{comparison_of}
use Rattle.audit_text.proofs.text.verdict.push_verdict.Given as goal

-- The lines of the PCRs before the index were appended.
abbrev pub invariant-loop-pcr : goal.invariant-loop-pcr
invariant-loop-pcr g l =
    AppendsText l.initial.text l.text (flat_map (line_of l.name (comparison_of l.verdict)) (take l.pcr-index l.held))
