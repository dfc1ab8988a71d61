-- Whether a log can be judged, in messages and as a status.
use Rattle.std.specs.Prelude.{ℕ, List, [], ◌++◌, codes, Option, Some}
use Rattle.std.specs.Fmt.{decimal}
use Rattle.uefi_tcg.specs.declared.log.LastEntry.{LastEntry}
use Rattle.uefi_tcg.specs.declared.log.LastEntry.TheVariants.{At}
use Rattle.uefi_tcg.specs.declared.log_error.LogError.{LogError}
use Rattle.uefi_tcg.specs.declared.log_error.LogError.TheVariants.{LeftOver as NotEnded}
use Rattle.uefi_audits.specs.HeaderFault.{header_fault}
use Rattle.uefi_audits.specs.Trailing.{trailing_of}
use Rattle.uefi_audits.specs.declared.judgement.Judgement.{Judgement}
use Rattle.uefi_audits.specs.declared.judgement.Judgement.TheVariants.{Accepted, NothingMeasured, LeftOver}
use Rattle.audit_text.specs.text.HeaderFault.{header_fault_lines}
use Rattle.audit_text.specs.text.Judgement.{judgement_lines}
use Rattle.shown.specs.Name.{shown_name}
use Rattle.uefi_audit.specs.declared.failure.Status.{Status}
use Rattle.uefi_audit.specs.declared.failure.Status.TheVariants.{Well, Unjudged}
use Rattle.uefi_audit.specs.declared.log_file.LogFile.{LogFile}

-- The line of a log in which no event starts at the last entry that is asked for: it has events, and ends with none there.
unfoldable pub last_entry_lines : List ℕ → LastEntry → Option LogError → List ℕ
last_entry_lines name (At offset) (Some (NotEnded end)) =
    shown_name name ++ codes ": no event starts at offset " ++ decimal offset ++ codes " (--last-entry)\n"
last_entry_lines name last_entry fault = []

-- The messages on it, after what is wrong with its header.
abbrev pub judgement_messages : LogFile → Judgement → List ℕ
judgement_messages file judgement =
    header_fault_lines file.name.now (header_fault file.read)
    ++ last_entry_lines file.name.now file.read.log.last_entry file.fault
    ++ judgement_lines file.name.now judgement (trailing_of file.read)

-- The status of a run over it, if nothing else is wrong.
abbrev pub judged_status : Judgement → Status
judged_status Accepted = Well
judged_status NothingMeasured = Unjudged
judged_status LeftOver = Unjudged
