-- What `check` prints of a log.
use Rattle.std.specs.Prelude.{ℕ, ◌≡◌, Bool, true, false, List, [], ◌∷◌, map, Option, Result, Ok, Err, if◌then◌else◌}
use Rattle.std.specs.declared.alloc.Global.{Global}
use Rattle.tpm_quote.specs.Quote.{Quote}
use Rattle.tpm_quote.specs.Reading.{IsVerdict}
use Rattle.tpm_quote.specs.declared.quote_error.QuoteError.{QuoteError}
use Rattle.uefi_tcg.specs.Entries.{Entry}
use Rattle.pcr_replay.specs.ReadLogs.{entries_in}
use Rattle.uefi_audits.specs.CheckResult.{IsCheckResult, Mismatched, mismatch_of}
use Rattle.uefi_audits.specs.Judgement.{is_read, judgement_of}
use Rattle.uefi_audits.specs.OutOfPlace.{Remarked, are_faults, remarks_of}
use Rattle.uefi_audits.specs.declared.check.counts.TypeCounts.{TypeCounts}
use Rattle.uefi_audits.specs.declared.check.result.CheckResult.{CheckResult}
use Rattle.uefi_audits.specs.declared.verify.named.NamedPcr.{NamedPcr}
use Rattle.uefi_audits.specs.verify.Covered.{covered_pcrs}
use Rattle.audit_text.specs.json.Check.{check_lines}
use Rattle.audit_text.specs.text.Check.{check_text}
use Rattle.uefi_audit.specs.Ends.{worse}
use Rattle.uefi_audit.specs.Judged.{judged_status, judgement_messages}
use Rattle.uefi_audit.specs.Printed.{Printed}
use Rattle.uefi_audit.specs.declared.failure.Status.{Status}
use Rattle.uefi_audit.specs.declared.failure.Status.TheVariants.{Well, Differs}
use Rattle.uefi_audit.specs.declared.log_file.LogFile.{LogFile}
use Rattle.uefi_audit.specs.declared.request.Format.{Format}
use Rattle.uefi_audit.specs.declared.request.Format.TheVariants.{Text, Json}

-- The PCRs that the quote in these bytes covers, or why the bytes are none.
abbrev pub AreQuoted : List ℕ → Result (List NamedPcr) QuoteError → Type 0
AreQuoted bytes (Ok pcrs) = (quote : Quote) × IsVerdict bytes (Ok quote) × (pcrs ≡ covered_pcrs quote)
AreQuoted bytes (Err error) = IsVerdict bytes (Err error)

-- What was found of the events of a log of this name, in a format.
unfoldable pub found_text : Format → List ℕ → List Mismatched → Remarked → List TypeCounts → List ℕ
found_text Text name mismatches remarks types = check_text name mismatches remarks types
found_text Json name mismatches remarks types = check_lines name mismatches remarks types

-- The status: whether no event is a mismatch, and no remark counts against the log.
unfoldable pub remarks_status : Remarked → Status
remarks_status remarks = if are_faults remarks then Differs else Well

abbrev pub found_status : List Mismatched → Remarked → Status
found_status [] remarks = remarks_status remarks
found_status (mismatch ∷ more) remarks = Differs

-- What is found of events is printed, and gives the status, if they are read; and else nothing is, and this status stays.
unfoldable pub IsCheckedIf : Bool → Status → Format → List ℕ → Option (List NamedPcr) → List Entry → List ℕ → Status → Type 0
IsCheckedIf true judged format name covered entries text status =
    (found : CheckResult Global) × IsCheckResult covered entries found
    × (text ≡ found_text format name (map mismatch_of found.mismatches.items) (remarks_of found.remarks) found.types.items)
    × (status ≡ worse judged (found_status (map mismatch_of found.mismatches.items) (remarks_of found.remarks)))
IsCheckedIf false judged format name covered entries text status = (text ≡ []) × (status ≡ judged)

-- What is printed of a log, where these PCRs are covered.
pub record IsCheckReport (allow_left_over : Bool) (covered : Option (List NamedPcr)) (file : LogFile) (format : Format)
    (printed : Printed) : Type 0 where
  pub messages : printed.messages ≡ judgement_messages file (judgement_of allow_left_over file.read)
  pub checked : IsCheckedIf (is_read (judgement_of allow_left_over file.read))
      (judged_status (judgement_of allow_left_over file.read)) format file.name.now covered (entries_in file.read)
      printed.text printed.status
