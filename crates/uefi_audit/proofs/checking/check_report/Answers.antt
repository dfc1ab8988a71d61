use Rattle.std.proofs.Common.{◌≡◌, ◌∙◌, ap, rules, string_bytes, subst, tests, true}
use Rattle.std.specs.Option.{option_map}
use Rattle.pcr_replay.specs.ReadLogs.{entries_in}
use Rattle.uefi_audits.specs.CheckResult.{IsCheckResult}
use Rattle.uefi_audits.specs.Judgement.{is_read}
use Rattle.uefi_audits.specs.declared.judgement.Judgement.{Judgement}
use Rattle.uefi_audit.specs.CheckReport.{IsCheckedIf}
use Rattle.uefi_audit.specs.Ends.{worse}
use Rattle.uefi_audit.specs.Judged.{judged_status, judgement_messages}
use Rattle.uefi_audit.proofs.CheckPrinted.{is_checked}
use Rattle.uefi_audit.proofs.checking.check_report.Goals as goal

pub returns : goal.returns
returns c =
    let file = c.args.file.now in
    let covered = option_map (λ pcrs. pcrs.now) c.args.covered in
    let judged = c.in_ok-judgement.ensures.judgement in
    let read : is_read c.in_ok-judgement.judgement ≡ true = search (rules, tests) in record {
      messages = c.in_ok-judgement.ensures.messages ∙ ap (judgement_messages file) judged;
      checked = subst (λ (it : Judgement). IsCheckedIf (is_read it) (judged_status it) c.args.format file.name.now covered (entries_in file.read)
          (string_bytes c.in_ok-text.text) c.and-status.result) judged
          (is_checked (is_read c.in_ok-judgement.judgement) (judged_status c.in_ok-judgement.judgement) c.and-status.result c.args.format
          file.name.now covered (entries_in file.read) (string_bytes c.in_ok-text.text) c.in_ok-found.found read
          (subst (λ it. IsCheckResult covered it c.in_ok-found.found) c.entries.ensures c.in_ok-found.ensures) c.in_ok-text.ensures
          (c.and-status.ensures ∙ (λ i. worse (c.judged_status-status.ensures i) (c.found_status.ensures i))));
    }
