-- What `verify` prints of a log and a quote.
use Rattle.std.specs.Prelude.{ℕ, ◌≡◌, ◌||◌, not, Bool, true, List, [], ◌∷◌, ◌++◌, flat_map, Result, Ok, Err, if◌then◌else◌}
use Rattle.pcr_replay.specs.ReadLogs.{entries_in}
use Rattle.pcr_replay.specs.declared.quote.NoQuoteDigest.{NoQuoteDigest}
use Rattle.pcr_replay.specs.declared.quote.NoQuoteDigest.TheVariants.{NoBank, Undetermined}
use Rattle.uefi_audits.specs.Ignored.{has_no_pcr, ignored_events}
use Rattle.uefi_audits.specs.Judgement.{judgement_of}
use Rattle.uefi_audits.specs.declared.ignored.IgnoredEvent.{IgnoredEvent}
use Rattle.uefi_audits.specs.declared.judgement.Judgement.{Judgement}
use Rattle.uefi_audits.specs.declared.judgement.Judgement.TheVariants.{Accepted, NothingMeasured, LeftOver}
use Rattle.uefi_audits.specs.declared.verify.held.HeldPcr.{HeldPcr}
use Rattle.uefi_audits.specs.declared.verify.named.NamedPcr.{NamedPcr}
use Rattle.uefi_audits.specs.verify.Compared.{PcrsJudged, QuoteJudged, judged_quote, pcrs_agree}
use Rattle.uefi_audits.specs.verify.Coverage.{is_whole}
use Rattle.uefi_audits.specs.verify.Quote.{QuoteAgrees, has_its_nonce, is_met, received_of}
use Rattle.audit_text.specs.declared.json.unjudged.NotJudged.{NotJudged}
use Rattle.audit_text.specs.declared.json.unjudged.NotJudged.TheVariants as why
use Rattle.audit_text.specs.json.Quote as json
use Rattle.audit_text.specs.text.Missing.{missing_lines}
use Rattle.audit_text.specs.text.Quote.{no_digest_line, no_pcr_line, other_nonce_line, quote_line, quote_verdict_line}
use Rattle.audit_text.specs.text.Remarks.{ignored_line, start_lines, uncompared_line}
use Rattle.uefi_audit.specs.Judged.{judgement_messages}
use Rattle.uefi_audit.specs.Printed.{Printed, one_after_other, unjudged_as}
use Rattle.uefi_audit.specs.Verification.{judged_in, lacking, verdict_status, verdict_text}
use Rattle.uefi_audit.specs.declared.failure.Status.{Status}
use Rattle.uefi_audit.specs.declared.failure.Status.TheVariants.{Well, Differs, Unjudged}
use Rattle.uefi_audit.specs.declared.log_file.LogFile.{LogFile}
use Rattle.uefi_audit.specs.declared.quote_check.QuoteCheck.{QuoteCheck}
use Rattle.uefi_audit.specs.declared.request.Format.{Format}
use Rattle.uefi_audit.specs.declared.request.Format.TheVariants.{Text, Json}
use Rattle.uefi_audit.specs.declared.verification.StatedPcrs.{StatedPcrs}

-- The verdict on the quote.
abbrev pub judged_on : LogFile → QuoteCheck → QuoteJudged
judged_on file check =
    judged_quote check.registers.locality (entries_in file.read) (received_of check.received) check.registers.selections.now

-- It in a format; in JSON also if the quote doesn't cover PCRs that are asked for.
unfoldable pub quote_text : Format → List ℕ → List ℕ → QuoteJudged → List ℕ
quote_text Text log file judged =
    other_nonce_line file judged.judgement.received ++ quote_line file judged.judgement.received
    ++ quote_verdict_line log judged.judgement
quote_text Json log file judged = json.quote_line log judged

unfoldable pub lacking_text : Format → List ℕ → QuoteJudged → List ℕ
lacking_text Text log judged = []
lacking_text Json log judged = json.quote_line log judged

-- Its status beside the events without effect: the digest or the nonce differs; or such an event is of a PCR that no TPM has.
abbrev pub quote_status : QuoteJudged → List IgnoredEvent → Status
quote_status judged ignored = if has_no_pcr ignored || not (is_met judged.judgement) then Differs else Well

-- What standard error has of it: the locality that is assumed, the events without effect, and the PCRs that events extend and that the quote doesn't cover.
abbrev pub quote_messages : LogFile → QuoteJudged → List ℕ
quote_messages file judged =
    start_lines file.name.now judged.judgement.start
    ++ flat_map (ignored_line file.name.now) (ignored_events (entries_in file.read))
    ++ uncompared_line file.name.now judged.covering.extended

-- After these messages, what is printed of the verdict on the quote.
abbrev pub quote_printed : List ℕ → LogFile → QuoteCheck → QuoteJudged → Printed
quote_printed before file check judged = record {
  messages = before ++ quote_messages file judged;
  text = quote_text check.registers.format file.name.now check.file.now judged;
  status = quote_status judged (ignored_events (entries_in file.read));
}

-- What is printed of a quote that doesn't cover PCRs that are asked for.
abbrev pub lacking_quote : List ℕ → List ℕ → QuoteCheck → QuoteJudged → Printed
lacking_quote before name check judged = record {
  messages = before ++ missing_lines check.file.now judged.covering.missing;
  text = lacking_text check.registers.format name judged;
  status = Unjudged;
}

-- The verdict on the PCRs of a file, which are compared as well, in a format: nothing if they agree, since the verdict is the quote's.
abbrev pub differing_text : Format → List ℕ → PcrsJudged → List ℕ
differing_text format name judged = if pcrs_agree judged then [] else verdict_text format name judged

-- What is printed of them, unless some that are asked for are missing in the file.
unfoldable pub registers_unless_missing : List NamedPcr → LogFile → StatedPcrs → PcrsJudged → Printed
registers_unless_missing [] file stated judged = record {
  messages = [];
  text = differing_text stated.format file.name.now judged;
  status = verdict_status judged.comparison [];
}
registers_unless_missing (pcr ∷ missing) file stated judged = lacking [] file.name.now stated judged

abbrev pub registers_printed : LogFile → StatedPcrs → PcrsJudged → Printed
registers_printed file stated judged = registers_unless_missing judged.covering.missing file stated judged

-- What follows on the quote, if there are such PCRs.
unfoldable pub with_registers : List HeldPcr → LogFile → QuoteCheck → Printed → Printed
with_registers [] file check quote = quote
with_registers (pcr ∷ pcrs) file check quote =
    one_after_other quote (registers_printed file check.registers (judged_in file check.registers))

-- All of it, unless the quote doesn't cover PCRs that are asked for.
abbrev pub unless_uncovered : List NamedPcr → List ℕ → LogFile → QuoteCheck → QuoteJudged → Printed
unless_uncovered [] before file check judged =
    with_registers check.registers.pcrs.now file check (quote_printed before file check judged)
unless_uncovered (pcr ∷ missing) before file check judged = lacking_quote before file.name.now check judged

-- Unless it covers no PCR.
unfoldable pub unless_empty : List NamedPcr → List ℕ → LogFile → QuoteCheck → QuoteJudged → Printed
unless_empty [] before file check judged =
    unjudged_as check.registers.format file.name.now why.NoPcr (before ++ no_pcr_line check.file.now)
unless_empty (pcr ∷ covered) before file check judged = unless_uncovered judged.covering.missing before file check judged

-- Unless the log leads to no digest.
abbrev pub reason_of : NoQuoteDigest → NotJudged
reason_of (NoBank algorithm) = why.NoBank
reason_of (Undetermined algorithm pcr at) = why.Undetermined

unfoldable pub by_its_digest : Result (List ℕ) NoQuoteDigest → List ℕ → LogFile → QuoteCheck → QuoteJudged → Printed
by_its_digest (Err none) before file check judged =
    unjudged_as check.registers.format file.name.now (reason_of none) (before ++ no_digest_line file.name.now none)
by_its_digest (Ok digest) before file check judged = unless_empty judged.covering.covered before file check judged

abbrev pub by_digest : List ℕ → LogFile → QuoteCheck → QuoteJudged → Printed
by_digest before file check judged = by_its_digest judged.judgement.digest before file check judged

-- What follows from the judgement of the log.
unfoldable pub checked_by_judgement : Judgement → List ℕ → LogFile → QuoteCheck → Printed
checked_by_judgement Accepted before file check = by_digest before file check (judged_on file check)
checked_by_judgement NothingMeasured before file check =
    unjudged_as check.registers.format file.name.now why.NothingMeasured before
checked_by_judgement LeftOver before file check =
    unjudged_as check.registers.format file.name.now why.LeftOver before

-- What is printed of a log: the messages on it come first.
abbrev pub quote_checked : Bool → LogFile → QuoteCheck → Printed
quote_checked allow_left_over file check =
    let judgement = judgement_of allow_left_over file.read in
    checked_by_judgement judgement (judgement_messages file judgement) file check

-- The status is that all is well only if the quote has its nonce, the log leads to its digest at one of the starts that are tried, and it covers a PCR and all that are asked for.
pub record QuoteIsMet (file : LogFile) (check : QuoteCheck) : Type 0 where
  pub nonce : has_its_nonce (received_of check.received) ≡ true
  pub digest : QuoteAgrees check.registers.locality (entries_in file.read) (received_of check.received)
  pub coverage : is_whole (judged_on file check).covering ≡ true
