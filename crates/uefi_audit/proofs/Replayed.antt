-- What is printed of a replay, by the judgement of a log.
use Rattle.std.proofs.Common.{◌≡◌, ℕ, List, subst}
use Rattle.std.specs.Prelude.{Bool, true, false}
use Rattle.uefi_tcg.specs.Entries.{Entry}
use Rattle.pcr_replay.specs.ReadLogs.{entries_in}
use Rattle.uefi_audits.specs.Facts.{AreFactsOf}
use Rattle.uefi_audits.specs.Judgement.{is_read, judgement_of}
use Rattle.uefi_audits.specs.declared.facts.LogFacts.{LogFacts}
use Rattle.uefi_audits.specs.declared.judgement.Judgement.{Judgement}
use Rattle.uefi_audit.specs.Judged.{judged_status, judgement_messages}
use Rattle.uefi_audit.specs.Printed.{Printed}
use Rattle.uefi_audit.specs.ReplayReport.{IsReplayBy, IsReplayReport, IsReplayed, at_best, refused}
use Rattle.uefi_audit.specs.declared.failure.Status.{Status}
use Rattle.uefi_audit.specs.declared.log_file.LogFile.{LogFile}
use Rattle.uefi_audit.specs.declared.replay.Asked.{Asked}

by_refused : (read : Bool) (status : Status) (before name : List ℕ) (asked : Asked) (facts : LogFacts) (entries : List Entry)
    (printed : Printed) → read ≡ false → printed ≡ refused before name asked facts
    → IsReplayBy read status before name asked facts entries printed
unfolding IsReplayBy
by_refused read status before name asked facts entries printed is printing = rw is printing

by_replayed : (read : Bool) (status : Status) (before name : List ℕ) (asked : Asked) (facts : LogFacts) (entries : List Entry)
    (found printed : Printed) → read ≡ true → IsReplayed before name asked facts entries found → printed ≡ at_best status found
    → IsReplayBy read status before name asked facts entries printed
unfolding IsReplayBy
by_replayed read status before name asked facts entries found printed is replayed printing = rw is (found, replayed, printing)

-- The judgement that was computed is the log's.
by_judgement : (allow : Bool) (file : LogFile) (asked : Asked) (facts : LogFacts) (judgement : Judgement) (messages : List ℕ)
    (printed : Printed) → judgement ≡ judgement_of allow file.read → messages ≡ judgement_messages file judgement
    → AreFactsOf asked.locality file.read facts
    → IsReplayBy (is_read judgement) (judged_status judgement) messages file.name.now asked facts (entries_in file.read) printed
    → IsReplayReport allow file asked printed
by_judgement allow file asked facts judgement messages printed judged said are is = (
  facts,
  are,
  subst (λ it. IsReplayBy (is_read it) (judged_status it) (judgement_messages file it) file.name.now asked facts
      (entries_in file.read) printed) judged
      (subst (λ it. IsReplayBy (is_read judgement) (judged_status judgement) it file.name.now asked facts (entries_in file.read) printed)
      said is),
)

pub refused_is : (allow : Bool) (file : LogFile) (asked : Asked) (facts : LogFacts) (judgement : Judgement) (messages : List ℕ)
    (printed : Printed) → judgement ≡ judgement_of allow file.read → messages ≡ judgement_messages file judgement
    → AreFactsOf asked.locality file.read facts → is_read judgement ≡ false → printed ≡ refused messages file.name.now asked facts
    → IsReplayReport allow file asked printed
refused_is allow file asked facts judgement messages printed judged said are unread is =
    by_judgement allow file asked facts judgement messages printed judged said are
    (by_refused (is_read judgement) (judged_status judgement) messages file.name.now asked facts (entries_in file.read) printed unread is)

pub replayed_is : (allow : Bool) (file : LogFile) (asked : Asked) (facts : LogFacts) (judgement : Judgement) (messages : List ℕ)
    (found printed : Printed) → judgement ≡ judgement_of allow file.read → messages ≡ judgement_messages file judgement
    → AreFactsOf asked.locality file.read facts → is_read judgement ≡ true
    → IsReplayed messages file.name.now asked facts (entries_in file.read) found → printed ≡ at_best (judged_status judgement) found
    → IsReplayReport allow file asked printed
replayed_is allow file asked facts judgement messages found printed judged said are read replayed is =
    by_judgement allow file asked facts judgement messages printed judged said are
    (by_replayed (is_read judgement) (judged_status judgement) messages file.name.now asked facts (entries_in file.read) found
    printed read replayed is)
