-- What `events` prints of a log.
use Rattle.std.specs.Prelude.{ℕ, ◌≡◌, ◌++◌, Bool, true, false, List, [], Option, None, Some}
use Rattle.uefi_tcg.specs.v2.Header.{Header}
use Rattle.pcr_replay.specs.ReadLogs.{entries_in, header_in, uintn_size_in}
use Rattle.uefi_audits.specs.Judgement.{is_read, judgement_of}
use Rattle.audit_text.specs.json.Events.{AreEventLines}
use Rattle.audit_text.specs.text.Events.{AreEventBlocks, header_block}
use Rattle.uefi_audit.specs.Judged.{judged_status, judgement_messages}
use Rattle.uefi_audit.specs.Printed.{Printed}
use Rattle.uefi_audit.specs.declared.log_file.LogFile.{LogFile}
use Rattle.uefi_audit.specs.declared.request.Format.{Format}
use Rattle.uefi_audit.specs.declared.request.Format.TheVariants.{Text, Json}

-- The block of a header, if there is one.
unfoldable pub header_text : List ℕ → Option Header → List ℕ
header_text name None = []
header_text name (Some header) = header_block name header

-- The events in a format: as text the header's block and theirs, and as JSON their lines.
unfoldable pub AreEvents : Format → LogFile → List ℕ → Type 0
AreEvents Text file text =
    (blocks : List ℕ) × AreEventBlocks (uintn_size_in file.read) file.name.now (entries_in file.read) blocks
    × (text ≡ header_text file.name.now (header_in file.read) ++ blocks)
AreEvents Json file text = AreEventLines (uintn_size_in file.read) file.name.now (entries_in file.read) text

-- They are printed if they are read, and else nothing is.
unfoldable pub AreEventsIf : Bool → Format → LogFile → List ℕ → Type 0
AreEventsIf true format file text = AreEvents format file text
AreEventsIf false format file text = text ≡ []

-- What is printed of a log.
pub record IsEventsReport (allow_left_over : Bool) (file : LogFile) (format : Format) (printed : Printed) : Type 0 where
  pub messages : printed.messages ≡ judgement_messages file (judgement_of allow_left_over file.read)
  pub events : AreEventsIf (is_read (judgement_of allow_left_over file.read)) format file printed.text
  pub status : printed.status ≡ judged_status (judgement_of allow_left_over file.read)
