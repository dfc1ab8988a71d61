use Rattle.std.proofs.Common.{string_bytes}
use Rattle.std.proofs.lemmas.Result.{IfOk-weaker}
use Rattle.uefi_audit.specs.Printed.{printed_of}
use Rattle.uefi_audit.proofs.Verifying.{judged_is}
use Rattle.uefi_audit.proofs.verification.verification_report.Goals as goal

pub returns : goal.returns
returns c =
    IfOk-weaker c.judged_report.result _ _
    (λ report is. judged_is c.args.reading.allow_left_over c.args.file.now c.args.stated.now
    c.in_ok-judgement.judgement (string_bytes c.in_ok-judgement.messages) (printed_of report)
    c.in_ok-judgement.ensures.judgement c.in_ok-judgement.ensures.messages is)
    c.judged_report.ensures
