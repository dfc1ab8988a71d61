use Rattle.std.proofs.Common.{◌≡◌, ◌∙◌, false, rules, string_bytes, tests, true}
use Rattle.std.proofs.lemmas.Result.{IfOk-weaker}
use Rattle.uefi_audits.specs.Judgement.{is_read}
use Rattle.uefi_audit.specs.Ends.{worse}
use Rattle.uefi_audit.specs.Printed.{printed_of}
use Rattle.uefi_audit.proofs.Replayed.{refused_is, replayed_is}
use Rattle.uefi_audit.proofs.replay.replay_report.Goals as goal

pub returns-then-not-is_read : goal.returns-then-not-is_read
returns-then-not-is_read c =
    let unread : is_read c.in_ok-judgement.judgement ≡ false = search (rules, tests) in
    IfOk-weaker c.refused_report.result _ _
    (λ report is. refused_is c.args.reading.allow_left_over c.args.file.now c.args.asked c.in_ok-facts.facts
    c.in_ok-judgement.judgement (string_bytes c.in_ok-judgement.messages) (printed_of report)
    c.in_ok-judgement.ensures.judgement c.in_ok-judgement.ensures.messages c.in_ok-facts.ensures unread is)
    c.refused_report.ensures

pub returns : goal.returns
returns c =
    let read : is_read c.in_ok-judgement.judgement ≡ true = search (rules, tests) in
    replayed_is c.args.reading.allow_left_over c.args.file.now c.args.asked c.in_ok-facts.facts
    c.in_ok-judgement.judgement (string_bytes c.in_ok-judgement.messages) (printed_of c.in_ok-report.report) _
    c.in_ok-judgement.ensures.judgement c.in_ok-judgement.ensures.messages c.in_ok-facts.ensures read c.in_ok-report.ensures
    (λ i. record {
      messages = string_bytes c.in_ok-report.report.messages;
      text = string_bytes c.in_ok-report.report.text;
      status = (c.and.ensures ∙ (λ j. worse (c.judged_status.ensures j) c.in_ok-report.report.status)) i;
    })
