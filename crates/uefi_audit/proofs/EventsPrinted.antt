-- The events of a log as text and as JSON.
use Rattle.std.proofs.Common.{◌≡◌, ◌∙◌, List, ◌++◌, ap, append_assoc, refl, subst, string_bytes}
use Rattle.std.specs.declared.alloc.Global.{Global}
use Rattle.std.specs.declared.string.String.{String}
use Rattle.uefi_tcg.specs.Entries.{Entry}
use Rattle.uefi_tcg.specs.declared.uintn_size.UintnSize.{UintnSize}
use Rattle.pcr_replay.specs.ReadLogs.{entries_in, header_in, uintn_size_in}
use Rattle.audit_text.specs.json.Events.{AreEventLines}
use Rattle.audit_text.specs.text.Events.{AreEventBlocks}
use Rattle.audit_text.specs.words.Events.{AppendsSome}
use Rattle.uefi_audit.specs.EventsReport.{AreEvents, header_text}
use Rattle.uefi_audit.specs.declared.log_file.LogFile.{LogFile}
use Rattle.uefi_audit.specs.declared.request.Format.TheVariants.{Json, Text}

-- The lines that were appended are the log's.
pub are_lines : (file : LogFile) (size : UintnSize) (entries : List Entry) (old new : String Global)
    → size ≡ uintn_size_in file.read → entries ≡ entries_in file.read
    → AppendsSome (AreEventLines size file.name.now entries) old new → AppendsSome (AreEvents Json file) old new
unfolding AreEvents
are_lines file size entries old new is_size are_entries (text, are, more) = (
  text,
  subst (λ it. AreEventLines it file.name.now (entries_in file.read) text) is_size
      (subst (λ it. AreEventLines size file.name.now it text) are_entries are),
  more,
)

-- So are the blocks, after that of the header.
pub are_blocks : (file : LogFile) (size : UintnSize) (entries : List Entry) (old now new : String Global)
    → string_bytes now ≡ string_bytes old ++ header_text file.name.now (header_in file.read)
    → size ≡ uintn_size_in file.read → entries ≡ entries_in file.read
    → AppendsSome (AreEventBlocks size file.name.now entries) now new → AppendsSome (AreEvents Text file) old new
unfolding AreEvents
are_blocks file size entries old now new first is_size are_entries (text, are, more) = (
  header_text file.name.now (header_in file.read) ++ text,
  (
    text,
    subst (λ it. AreEventBlocks it file.name.now (entries_in file.read) text) is_size
        (subst (λ it. AreEventBlocks size file.name.now it text) are_entries are),
    refl,
  ),
  more ∙ ap (λ it. it ++ text) first ∙ append_assoc (string_bytes old) (header_text file.name.now (header_in file.read)) text,
)
