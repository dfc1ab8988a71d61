-- What `log1` lists: the bytes as a version 1 event log.
use Rattle.std.specs.Prelude.{ℕ, List, ◌++◌, length, codes, flat_map, ◌≡◌, Option, Some}
use Rattle.std.specs.Fmt.{decimal}
use Rattle.std.specs.Int.{w32, to_be_bytes}
use Rattle.std.specs.declared.string.String.{String}
use Rattle.uefi_tcg.specs.LogInput.{LogInput}
use Rattle.uefi_tcg.specs.v1.Event.{Event}
use Rattle.uefi_tcg.specs.v1.Log.{IsLogOf}
use Rattle.uefi_base.specs.Appending.{AppendsText}
use Rattle.shown.specs.HexText.{gap_before, hex_of}
use Rattle.uefi_listing.specs.declared.listing.Outcome.{Outcome}
use Rattle.uefi_listing.specs.declared.listing.Outcome.TheVariants.{Listed, Refused}

-- The register in decimal, the type as `0x` and eight hex digits, the digest in hex, and the data in hex if there is any.
unfoldable pub event_line : Event → List ℕ
event_line event =
    codes "event " ++ decimal event.pcr_index
    ++ codes " 0x" ++ hex_of (to_be_bytes w32 event.event_type)
    ++ codes " " ++ hex_of event.digest
    ++ gap_before event.event_data ++ hex_of event.event_data
    ++ codes "\n"

-- A line for each event, and their count.
abbrev pub log_lines : List Event → List ℕ
log_lines events = flat_map event_line events ++ codes "events " ++ decimal (length events) ++ codes "\n"

-- The text grows by the lines of the log's events.
abbrev pub AppendsLogLines : {A : Type 0} → String A → String A → LogInput → Type 0
AppendsLogLines old new log = (events : List Event) × IsLogOf log.bytes log.last_entry events × AppendsText old new (log_lines events)

-- The text lists the log of the bytes with the last entry. No bytes are refused: each have a log, which may be empty.
abbrev pub Log1Listing : Option ℕ → List ℕ → List ℕ → Outcome → Type 0
Log1Listing last_entry bytes text Listed = (events : List Event) × IsLogOf (Some bytes) last_entry events × (text ≡ log_lines events)
Log1Listing last_entry bytes text Refused = ⊥
