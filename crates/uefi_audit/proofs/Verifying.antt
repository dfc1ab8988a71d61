-- What `verify` prints, by the judgement of a log.
use Rattle.std.proofs.Common.{◌≡◌, ◌∙◌, ℕ, List, ap}
use Rattle.std.specs.Prelude.{Bool}
use Rattle.uefi_audits.specs.Judgement.{judgement_of}
use Rattle.uefi_audits.specs.declared.judgement.Judgement.{Judgement}
use Rattle.uefi_audit.specs.Judged.{judgement_messages}
use Rattle.uefi_audit.specs.Printed.{Printed}
use Rattle.uefi_audit.specs.Verification.{by_judgement, verification}
use Rattle.uefi_audit.specs.declared.log_file.LogFile.{LogFile}
use Rattle.uefi_audit.specs.declared.verification.StatedPcrs.{StatedPcrs}

-- What follows from the judgement of the log, and the messages on it.
pub judged_is : (allow_left_over : Bool) (file : LogFile) (stated : StatedPcrs) (judgement : Judgement)
    (messages : List ℕ) (printed : Printed) → judgement ≡ judgement_of allow_left_over file.read
    → messages ≡ judgement_messages file judgement → printed ≡ by_judgement judgement messages file stated
    → printed ≡ verification allow_left_over file stated
judged_is allow_left_over file stated judgement messages printed judged said is =
    is ∙ ap (λ before. by_judgement judgement before file stated) said
    ∙ ap (λ it. by_judgement it (judgement_messages file it) file stated) judged
