-- What `uefi_audit events` prints of a log for a person: a block of lines for its header, and one for each event, in order.
use Rattle.std.specs.Prelude.{ℕ, ◌≡◌, List, ◌++◌, flat_map, codes}
use Rattle.std.specs.Fmt.{decimal}
use Rattle.hex.specs.Hex.{encode_lower}
use Rattle.uefi_tcg.specs.declared.uintn_size.UintnSize.{UintnSize}
use Rattle.uefi_tcg.specs.v2.Event.{Digest, Event}
use Rattle.uefi_tcg.specs.v2.Header.{Header}
use Rattle.uefi_tcg.specs.Entries.{Entry}
use Rattle.audit_text.specs.text.EventContents.{content_lines, header_lines}
use Rattle.audit_text.specs.text.EventParts.{algorithm_text}
use Rattle.audit_text.specs.words.Events.{AreShown}
use Rattle.shown.specs.Name.{shown_name}
use Rattle.audit_text.specs.words.Types.{type_text}
use Rattle.uefi_audits.specs.content.Content.{Content, Says}
use Rattle.uefi_audits.specs.content.Form.{form}

-- The first line of an event: the log's name, the event's index and its offset, its PCR and its type.
unfoldable pub event_start : List ℕ → ℕ → Entry → List ℕ
event_start name index entry =
    shown_name name ++ (codes ": event " ++ (decimal index ++ (codes " at offset " ++ (decimal entry.offset ++ (codes ": PCR "
    ++ (decimal entry.event.pcr_index ++ codes ", "))))))

unfoldable pub first_line : List ℕ → ℕ → Entry → List ℕ
first_line name index entry = event_start name index entry ++ (type_text entry.event.event_type ++ codes "\n")

-- A digest, with its algorithm.
unfoldable pub digest_line : Digest → List ℕ
digest_line digest = codes "  " ++ (algorithm_text digest.algorithm ++ (codes " " ++ (encode_lower digest.bytes ++ codes "\n")))

-- The body of an event's block, after its first line: a line for each digest, and what the data say.
unfoldable pub event_body : Event → Content → List ℕ
event_body event content = flat_map digest_line event.digests ++ content_lines event.event_data content

-- The text is this body, with what the data say by the event's type, with a UINTN of this size.
abbrev pub IsEventBody : UintnSize → Event → List ℕ → Type 0
IsEventBody size event text =
    (content : Content) × Says size (form event.event_type) event.event_data content × (text ≡ event_body event content)

-- It is the block of an event at this index; and the blocks of all events of a log of this name.
abbrev pub IsEventBlock : UintnSize → List ℕ → ℕ → Entry → List ℕ → Type 0
IsEventBlock size name index entry text =
    (body : List ℕ) × IsEventBody size entry.event body × (text ≡ first_line name index entry ++ body)

abbrev pub AreEventBlocks : UintnSize → List ℕ → List Entry → List ℕ → Type 0
AreEventBlocks size name entries text = AreShown (IsEventBlock size name) 0 entries text

-- The block of a log's header.
unfoldable pub header_block : List ℕ → Header → List ℕ
header_block name header = (shown_name name ++ codes ": header at offset 0\n") ++ header_lines header
