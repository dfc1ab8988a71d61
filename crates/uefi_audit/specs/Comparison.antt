-- What `diff` prints of two logs.
use Rattle.std.specs.Prelude.{ℕ, ◌≡◌, ◌==◌, ◌&&◌, ◌||◌, not, ◌++◌, Bool, true, false, List, [], length, if◌then◌else◌}
use Rattle.uefi_audits.specs.Judgement.{is_read, judgement_of}
use Rattle.pcr_replay.specs.ReadLogs.{header_in}
use Rattle.uefi_audits.specs.diff.Algorithms.{compared_algorithms}
use Rattle.uefi_audits.specs.diff.Differences.{AreDifferences, Difference, Parts}
use Rattle.audit_text.specs.ComparedLogs.{Logs}
use Rattle.audit_text.specs.text.Differences.{difference_lines}
use Rattle.audit_text.specs.json.Diff.{difference_json_lines}
use Rattle.shown.specs.Name.{shown_name}
use Rattle.uefi_audit.specs.Ends.{worse}
use Rattle.uefi_audit.specs.Judged.{judged_status, judgement_messages}
use Rattle.uefi_audit.specs.Printed.{Printed, one_after_other, printed_of}
use Rattle.uefi_audit.specs.declared.failure.Status.{Status}
use Rattle.uefi_audit.specs.declared.failure.Status.TheVariants.{Well, Differs, Unjudged}
use Rattle.uefi_audit.specs.declared.request.Compared.{Compared}
use Rattle.uefi_audit.specs.declared.log_file.LogFile.{LogFile}
use Rattle.uefi_audit.specs.declared.log_file.Opened.{Opened}
use Rattle.uefi_audit.specs.declared.log_file.Opened.TheVariants.{Read, Refused}
use Rattle.uefi_audit.specs.declared.request.Format.{Format}
use Rattle.uefi_audit.specs.declared.request.Format.TheVariants.{Text, Json}

-- The lines of differences: as text, in which names are as they are printed; or as JSON.
abbrev pub with_shown_names : Logs → Logs
with_shown_names logs =
    record { old_name = shown_name logs.old_name; new_name = shown_name logs.new_name; algorithms = logs.algorithms }

unfoldable pub difference_text : Format → Logs → List Difference → List ℕ
difference_text Text logs differences = difference_lines (with_shown_names logs) differences
difference_text Json logs differences = difference_json_lines logs differences

-- The status. Logs whose digests aren't compared can't be judged.
unfoldable pub compared_status : List ℕ → List Difference → Status
compared_status algorithms differences =
    if length algorithms == 0 then Unjudged
    else if length differences == 0 then Well
    else Differs

-- Which parts of events are compared: their data as well, unless digests alone are asked for, and there are some that are
-- compared.
abbrev pub compared_parts : Bool → List ℕ → Parts
compared_parts digests_only algorithms =
    record { algorithms = algorithms; with_data = not digests_only || length algorithms == 0 }

-- What is printed of how the events of two logs differ, and the status, if both logs are read; and else nothing, and this status.
abbrev pub algorithms_of : Compared → LogFile → LogFile → List ℕ
algorithms_of asked old new = compared_algorithms asked.bank (header_in old.read) (header_in new.read)

abbrev pub parts_in : Compared → LogFile → LogFile → Parts
parts_in asked old new = compared_parts asked.digests_only (algorithms_of asked old new)

abbrev pub logs_in : Compared → LogFile → LogFile → Logs
logs_in asked old new =
    record { old_name = old.name.now; new_name = new.name.now; algorithms = algorithms_of asked old new }

unfoldable pub IsCompared : Bool → Status → Compared → LogFile → LogFile → List ℕ → Status → Type 0
IsCompared true judged asked old new text status =
    (differences : List Difference) × AreDifferences (parts_in asked old new) old.read new.read differences
    × (text ≡ difference_text asked.format (logs_in asked old new) differences)
    × (status ≡ worse judged (compared_status (algorithms_of asked old new) differences))
IsCompared false judged asked old new text status = (text ≡ []) × (status ≡ judged)

-- What is printed of two logs: the messages on the old one come first, and the worst status counts.
pub record IsComparison (allow_left_over : Bool) (old new : LogFile) (asked : Compared) (printed : Printed) : Type 0 where
  pub messages : printed.messages ≡ judgement_messages old (judgement_of allow_left_over old.read)
      ++ judgement_messages new (judgement_of allow_left_over new.read)
  pub compared : IsCompared (is_read (judgement_of allow_left_over old.read) && is_read (judgement_of allow_left_over new.read))
      (worse (judged_status (judgement_of allow_left_over old.read)) (judged_status (judgement_of allow_left_over new.read)))
      asked old new printed.text printed.status

-- What is said of a log that isn't compared, since the other one wasn't read.
unfoldable pub side_printed : Bool → Opened → Printed
side_printed allow_left_over (Refused report) = printed_of report
side_printed allow_left_over (Read file) = record {
  messages = judgement_messages file (judgement_of allow_left_over file.read);
  text = [];
  status = judged_status (judgement_of allow_left_over file.read);
}

-- What `diff` prints of two logs; if one of them wasn't read, what is said of each.
unfoldable pub IsDifferenceReport : Bool → Compared → Opened → Opened → Printed → Type 0
IsDifferenceReport allow_left_over asked (Read old) (Read new) printed = IsComparison allow_left_over old new asked printed
IsDifferenceReport allow_left_over asked (Read old) (Refused new) printed =
    printed ≡ one_after_other (side_printed allow_left_over (Read old)) (side_printed allow_left_over (Refused new))
IsDifferenceReport allow_left_over asked (Refused old) new printed =
    printed ≡ one_after_other (side_printed allow_left_over (Refused old)) (side_printed allow_left_over new)
