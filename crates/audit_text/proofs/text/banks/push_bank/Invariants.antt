use Rattle.std.proofs.Common.{◌≡◌, ◌++◌, drop, string_bytes}
use Rattle.pcr_replay.specs.Views.{outcomes_of}
use Rattle.uefi_audits.specs.Numbered.{numbered}
use Rattle.audit_text.specs.text.Pcrs.{pcr_line}
use Rattle.audit_text.proofs.text.banks.push_bank.Given as goal

-- The lines so far and those of the PCRs to come are the lines of all.
abbrev pub invariant-loop-number : goal.invariant-loop-number
invariant-loop-number g l =
    string_bytes l.text ++ numbered pcr_line l.number (drop l.number (outcomes_of l.bank.pcrs))
    ≡ string_bytes l.initial.text ++ numbered pcr_line 0 (outcomes_of l.bank.pcrs)
