-- A log that was read from a file, or what is printed of one that wasn't.
use Rattle.std.specs.Prelude.{ℕ, ◌≡◌, ◌≤◌, ◌<◌, List, length, MatchOption}
use Rattle.std.specs.Borrow.{Bor}
use Rattle.uefi_tcg.specs.Logs.{HasHeader}
use Rattle.uefi_tcg.specs.WholeLogs.{IsFault, IsWhole, log_given}
use Rattle.uefi_tcg.specs.v2.Header.{Header}
use Rattle.pcr_replay.specs.ReadLogs.{table_in}
use Rattle.audit_text.specs.text.Judgement.{many_line}
use Rattle.uefi_audit.specs.Printed.{Printed, printed_of, refused_as, unjudged}
use Rattle.uefi_audit.specs.declared.log_file.LogFile.{LogFile}
use Rattle.uefi_audit.specs.declared.log_file.Opened.{Opened}
use Rattle.uefi_audit.specs.declared.log_file.Opened.TheVariants.{Read, Refused}
use Rattle.uefi_audit.specs.declared.report.Report.{Report}
use Rattle.uefi_audit.specs.declared.request.Format.{Format}
use Rattle.uefi_audit.specs.declared.request.Reading.{Reading}

-- It was read, with as many rows as are allowed at most: it is whole, or why it isn't is known.
pub record WasOpened (name bytes : Bor (List ℕ)) (reading : Reading) (file : LogFile) : Type 0 where
  pub named : file.name ≡ name
  pub log : file.read.log ≡ log_given bytes reading.last_entry
  pub few_rows : length (table_in file.read) ≤ reading.max_rows
  pub whole : MatchOption file.fault (IsWhole reading.max_rows file.read.log) (IsFault reading.max_rows file.read.log)

-- It wasn't: its header has more, which is said.
pub record WasRefused (name bytes : Bor (List ℕ)) (reading : Reading) (report : Report) : Type 0 where
  pub header : Header
  pub has : HasHeader (log_given bytes reading.last_entry) header
  pub many_rows : reading.max_rows < length header.table
  pub is_printed : printed_of report ≡ unjudged (many_line name.now (length header.table) reading.max_rows)

unfoldable pub IsOpened : Bor (List ℕ) → Bor (List ℕ) → Reading → Opened → Type 0
IsOpened name bytes reading (Read file) = WasOpened name bytes reading file
IsOpened name bytes reading (Refused report) = WasRefused name bytes reading report

-- What is printed of a log: of one that was read, what it has to be; of one that wasn't, what its refusal says.
unfoldable pub IsReportOf : (LogFile → Printed → Type 0) → Opened → Printed → Type 0
IsReportOf IsReport (Read file) printed = IsReport file printed
IsReportOf IsReport (Refused report) printed = printed ≡ printed_of report

-- The same of `verify`.
unfoldable pub IsVerdictOf : (LogFile → Printed → Type 0) → Format → List ℕ → Opened → Printed → Type 0
IsVerdictOf IsVerdict format name (Read file) printed = IsVerdict file printed
IsVerdictOf IsVerdict format name (Refused report) printed = printed ≡ refused_as format name (printed_of report)
