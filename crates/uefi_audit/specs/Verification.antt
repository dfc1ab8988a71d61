-- What `verify` prints of a log and the PCRs that a TPM held.
use Rattle.std.specs.Prelude.{ℕ, Bool, List, [], ◌∷◌, ◌++◌, ◌||◌, not, flat_map, nat_lt, if◌then◌else◌}
use Rattle.pcr_replay.specs.ReadLogs.{entries_in}
use Rattle.uefi_audits.specs.Ignored.{has_no_pcr, ignored_events}
use Rattle.uefi_audits.specs.Judgement.{judgement_of}
use Rattle.uefi_audits.specs.LogReplay.{inactive_banks}
use Rattle.uefi_audits.specs.verify.Banks.{held_banks}
use Rattle.uefi_audits.specs.verify.Compared.{PcrsJudged, judged_pcrs}
use Rattle.uefi_audits.specs.verify.Verdict.{Comparison, is_agreement}
use Rattle.uefi_audits.specs.declared.ignored.IgnoredEvent.{IgnoredEvent}
use Rattle.uefi_audits.specs.declared.judgement.Judgement.{Judgement}
use Rattle.uefi_audits.specs.declared.judgement.Judgement.TheVariants.{Accepted, NothingMeasured, LeftOver}
use Rattle.uefi_audits.specs.declared.verify.named.NamedPcr.{NamedPcr}
use Rattle.audit_text.specs.declared.json.unjudged.NotJudged.TheVariants as why
use Rattle.audit_text.specs.json.Verdict.{verdict_line}
use Rattle.audit_text.specs.text.Missing.{missing_lines}
use Rattle.audit_text.specs.text.Remarks.{ignored_line, inactive_line, start_lines, uncompared_line}
use Rattle.audit_text.specs.text.Verdict.{verdict_lines}
use Rattle.uefi_audit.specs.Judged.{judgement_messages}
use Rattle.uefi_audit.specs.Printed.{Printed, unjudged_as}
use Rattle.uefi_audit.specs.declared.failure.Status.{Status}
use Rattle.uefi_audit.specs.declared.failure.Status.TheVariants.{Well, Differs, Unjudged}
use Rattle.uefi_audit.specs.declared.log_file.LogFile.{LogFile}
use Rattle.uefi_audit.specs.declared.request.Format.{Format}
use Rattle.uefi_audit.specs.declared.request.Format.TheVariants.{Text, Json}
use Rattle.uefi_audit.specs.declared.verification.StatedPcrs.{StatedPcrs}

-- The PCRs of a file beside what a log leads to.
abbrev pub judged_in : LogFile → StatedPcrs → PcrsJudged
judged_in file stated = judged_pcrs stated.locality (entries_in file.read) stated.pcrs.now stated.selections.now

-- The verdict in a format; in JSON also if PCRs that are asked for are missing.
unfoldable pub verdict_text : Format → List ℕ → PcrsJudged → List ℕ
verdict_text Text name judged = verdict_lines name judged.comparison judged.held
verdict_text Json name judged = verdict_line name judged

unfoldable pub lacking_text : Format → List ℕ → PcrsJudged → List ℕ
lacking_text Text name judged = []
lacking_text Json name judged = verdict_line name judged

-- The status of a verdict beside the events without effect: a PCR is undetermined; or one differs, or such an event is of a PCR that no TPM has.
abbrev pub verdict_status : Comparison → List IgnoredEvent → Status
verdict_status comparison ignored =
    if nat_lt 0 comparison.undetermined then Unjudged
    else if has_no_pcr ignored || not (is_agreement comparison) then Differs
    else Well

-- What standard error has of a verdict: the locality that is assumed, the held banks that no event has a digest of, the events without effect, and the PCRs that events extend and that aren't compared.
abbrev pub verdict_messages : LogFile → PcrsJudged → List ℕ
verdict_messages file judged =
    start_lines file.name.now judged.comparison.start
    ++ flat_map (inactive_line file.name.now) (inactive_banks (entries_in file.read) (held_banks judged.held))
    ++ flat_map (ignored_line file.name.now) (ignored_events (entries_in file.read))
    ++ uncompared_line file.name.now judged.covering.extended

-- After these messages, what is printed of the verdict on PCRs.
abbrev pub with_verdict : List ℕ → LogFile → StatedPcrs → PcrsJudged → Printed
with_verdict before file stated judged = record {
  messages = before ++ verdict_messages file judged;
  text = verdict_text stated.format file.name.now judged;
  status = verdict_status judged.comparison (ignored_events (entries_in file.read));
}

-- What is printed of PCRs of which some that are asked for are missing.
abbrev pub lacking : List ℕ → List ℕ → StatedPcrs → PcrsJudged → Printed
lacking before name stated judged = record {
  messages = before ++ missing_lines stated.file.now judged.covering.missing;
  text = lacking_text stated.format name judged;
  status = Unjudged;
}

-- The verdict, unless PCRs that are asked for are missing.
unfoldable pub unless_missing : List NamedPcr → List ℕ → LogFile → StatedPcrs → PcrsJudged → Printed
unless_missing [] before file stated judged = with_verdict before file stated judged
unless_missing (pcr ∷ missing) before file stated judged = lacking before file.name.now stated judged

abbrev pub compared : List ℕ → LogFile → StatedPcrs → PcrsJudged → Printed
compared before file stated judged = unless_missing judged.covering.missing before file stated judged

-- What follows from the judgement.
unfoldable pub by_judgement : Judgement → List ℕ → LogFile → StatedPcrs → Printed
by_judgement Accepted before file stated = compared before file stated (judged_in file stated)
by_judgement NothingMeasured before file stated = unjudged_as stated.format file.name.now why.NothingMeasured before
by_judgement LeftOver before file stated = unjudged_as stated.format file.name.now why.LeftOver before

-- What is printed of a log: the messages on it come first.
abbrev pub verification : Bool → LogFile → StatedPcrs → Printed
verification allow_left_over file stated =
    let judgement = judgement_of allow_left_over file.read in
    by_judgement judgement (judgement_messages file judgement) file stated
