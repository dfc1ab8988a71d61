-- What `log2` and `log2after` list: the bytes as a version 2 event log, from one of its two starts, and its header.
use Rattle.std.specs.Prelude.{ℕ, List, ◌++◌, length, codes, flat_map, Option, None, Some, ◌≡◌}
use Rattle.std.specs.Fmt.{decimal}
use Rattle.std.specs.Int.{w16, w32, to_be_bytes}
use Rattle.std.specs.declared.string.String.{String}
use Rattle.uefi_tcg.specs.LogInput.{LogInput}
use Rattle.uefi_tcg.specs.v2.Event.{Digest, Event}
use Rattle.uefi_tcg.specs.declared.v2.log.Start.{Start as StartNamed}
use Rattle.uefi_tcg.specs.v2.Header.{Header, Start}
use Rattle.uefi_tcg.specs.v2.Log.{HasHeaderOf, IsLogOf}
use Rattle.uefi_tcg.specs.v2.Views.{start_named}
use Rattle.uefi_base.specs.Appending.{AppendsText}
use Rattle.shown.specs.HexText.{gap_before, hex_of}
use Rattle.uefi_listing.specs.declared.listing.Outcome.{Outcome}
use Rattle.uefi_listing.specs.declared.listing.Outcome.TheVariants.{Listed, Refused}

-- The platform class, the version of the specification and the size of a `UINTN`, in decimal.
unfoldable pub fields_line : Header → List ℕ
fields_line header =
    codes "header " ++ decimal header.platform_class
    ++ codes " " ++ decimal header.major ++ codes "." ++ decimal header.minor ++ codes "." ++ decimal header.errata
    ++ codes " " ++ decimal header.uintn_size
    ++ codes "\n"

-- Two spaces, an algorithm as `0x` and four hex digits, and the size of its digests in decimal.
unfoldable pub row_line : ℕ × ℕ → List ℕ
row_line row = codes "  algorithm 0x" ++ hex_of (to_be_bytes w16 row.0) ++ codes " " ++ decimal row.1 ++ codes "\n"

-- The vendor's bytes in hex, if there are any.
unfoldable pub vendor_line : List ℕ → List ℕ
vendor_line vendor = codes "vendor" ++ gap_before vendor ++ hex_of vendor ++ codes "\n"

-- The lines of a header: its fields, a line for each row of its table, and the vendor's bytes.
unfoldable pub header_lines : Header → List ℕ
header_lines header = fields_line header ++ flat_map row_line header.table ++ vendor_line header.vendor

-- The lines of a log's header, or the line for a log without one.
unfoldable pub log_header_lines : Option Header → List ℕ
log_header_lines None = codes "header none\n"
log_header_lines (Some header) = header_lines header

-- The register in decimal, the type as `0x` and eight hex digits, and the data in hex if there is any.
unfoldable pub event_line : Event → List ℕ
event_line event =
    codes "event " ++ decimal event.pcr_index
    ++ codes " 0x" ++ hex_of (to_be_bytes w32 event.event_type)
    ++ gap_before event.event_data ++ hex_of event.event_data
    ++ codes "\n"

-- Two spaces, an algorithm as `0x` and four hex digits, and the digest in hex if it has any bytes.
unfoldable pub digest_line : Digest → List ℕ
digest_line digest = codes "  digest 0x" ++ hex_of (to_be_bytes w16 digest.algorithm) ++ gap_before digest.bytes ++ hex_of digest.bytes ++ codes "\n"

-- The line of an event, and a line for each of its digests.
unfoldable pub event_lines : Event → List ℕ
event_lines event = event_line event ++ flat_map digest_line event.digests

-- The lines of the events, and their count.
abbrev pub log_lines : List Event → List ℕ
log_lines events = flat_map event_lines events ++ codes "events " ++ decimal (length events) ++ codes "\n"

-- The start that a value names.
abbrev pub start_of : StartNamed → Start
start_of start = start_named start

-- The header of the log of bytes with a last entry, if it has one.
abbrev pub IsHeaderOf : Option (List ℕ) → Option ℕ → Option Header → Type 0
IsHeaderOf bytes last_entry (Some header) = HasHeaderOf bytes last_entry header
IsHeaderOf bytes last_entry None = (header : Header) → HasHeaderOf bytes last_entry header → ⊥

-- The text grows by the lines of the log's header, if it has one, and of its events, which begin at the start.
abbrev pub AppendsLogLines : {A : Type 0} → Start → String A → String A → LogInput → Type 0
AppendsLogLines start old new log =
    (header : Option Header) × (events : List Event) × IsHeaderOf log.bytes log.last_entry header × IsLogOf start log.bytes log.last_entry events
    × AppendsText old new (log_header_lines header ++ log_lines events)

-- The text lists the log of the bytes with the last entry, whose events begin at the start, and its header before it.
pub record ListsLog (start : Start) (last_entry : Option ℕ) (bytes text : List ℕ) (header : Option Header) (events : List Event) : Type 0 where
  pub is_header : IsHeaderOf (Some bytes) last_entry header
  pub log : IsLogOf start (Some bytes) last_entry events
  pub lines : text ≡ log_header_lines header ++ log_lines events

-- No bytes are refused: each have a log, which may have neither a header nor events.
abbrev pub Log2Listing : Start → Option ℕ → List ℕ → List ℕ → Outcome → Type 0
Log2Listing start last_entry bytes text Listed = (header : Option Header) × (events : List Event) × ListsLog start last_entry bytes text header events
Log2Listing start last_entry bytes text Refused = ⊥
