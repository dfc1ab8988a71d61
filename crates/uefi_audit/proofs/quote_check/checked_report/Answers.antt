use Rattle.std.proofs.Common.{◌∙◌, ap, string_bytes, sym}
use Rattle.std.proofs.lemmas.Result.{IfOk-weaker}
use Rattle.uefi_audit.specs.Printed.{Printed, printed_of}
use Rattle.uefi_audit.proofs.QuoteChecks.{judged_is, quote_is_met}
use Rattle.uefi_audit.proofs.quote_check.checked_report.Goals as goal

pub returns-clause-printed : goal.returns-clause-printed
returns-clause-printed c =
    IfOk-weaker c.judged_report.result _ _
    (λ report is. judged_is c.args.reading.allow_left_over c.args.file.now c.args.check.now
    c.in_ok-judgement.judgement (string_bytes c.in_ok-judgement.messages) (printed_of report)
    c.in_ok-judgement.ensures.judgement c.in_ok-judgement.ensures.messages is)
    c.judged_report.ensures

pub returns-clause-met : goal.returns-clause-met
returns-clause-met c =
    IfOk-weaker c.judged_report.result _ _
    (λ report is well. quote_is_met c.args.reading.allow_left_over c.args.file.now c.args.check.now
    (ap (λ (it : Printed). it.status) (sym is) ∙ well))
    (returns-clause-printed c)
