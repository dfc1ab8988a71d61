-- What was found of a log's events is printed.
use Rattle.std.proofs.Common.{◌≡◌, ℕ, List, map}
use Rattle.std.specs.Prelude.{Bool, true, Option}
use Rattle.std.specs.declared.alloc.Global.{Global}
use Rattle.uefi_tcg.specs.Entries.{Entry}
use Rattle.uefi_audits.specs.CheckResult.{IsCheckResult, mismatch_of}
use Rattle.uefi_audits.specs.OutOfPlace.{remarks_of}
use Rattle.uefi_audits.specs.declared.check.result.CheckResult.{CheckResult}
use Rattle.uefi_audits.specs.declared.verify.named.NamedPcr.{NamedPcr}
use Rattle.uefi_audit.specs.CheckReport.{IsCheckedIf, found_status, found_text}
use Rattle.uefi_audit.specs.Ends.{worse}
use Rattle.uefi_audit.specs.declared.failure.Status.{Status}
use Rattle.uefi_audit.specs.declared.request.Format.{Format}

pub is_checked : (read : Bool) (before status : Status) (format : Format) (name : List ℕ) (covered : Option (List NamedPcr))
    (entries : List Entry) (text : List ℕ) (found : CheckResult Global) → read ≡ true → IsCheckResult covered entries found
    → text ≡ found_text format name (map mismatch_of found.mismatches.items) (remarks_of found.remarks) found.types.items
    → status ≡ worse before (found_status (map mismatch_of found.mismatches.items) (remarks_of found.remarks))
    → IsCheckedIf read before format name covered entries text status
unfolding IsCheckedIf
is_checked read before status format name covered entries text found is is_result is_text is_status =
    rw is (found, is_result, is_text, is_status)
