use Rattle.std.proofs.Common.{◌∙◌, ap, string_bytes, subst}
use Rattle.uefi_audits.specs.Judgement.{is_read}
use Rattle.uefi_audit.specs.EventsReport.{AreEventsIf}
use Rattle.uefi_audit.specs.Judged.{judged_status, judgement_messages}
use Rattle.uefi_audit.proofs.events.events_report.Goals as goal

pub returns : goal.returns
returns c =
    let file = c.args.file.now in
    let judged = c.in_ok-judgement.ensures.judgement in record {
      messages = c.in_ok-judgement.ensures.messages ∙ ap (judgement_messages file) judged;
      events = subst (λ it. AreEventsIf it c.args.format file (string_bytes c.in_ok-text.text))
          (c.is_read.ensures ∙ ap is_read judged) c.in_ok-text.ensures;
      status = c.judged_status.ensures ∙ ap judged_status judged;
    }
