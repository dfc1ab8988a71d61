-- The events of a log that have no effect on any PCR, and should have.
use Rattle.std.specs.Prelude.{ℕ, Bool, true, false, List, [], ◌∷◌, Option, None, Some}
use Rattle.std.specs.List.{list_any}
use Rattle.uefi_tcg.specs.Entries.{Entry}
use Rattle.pcr_replay.specs.Replay.{why_ignored}
use Rattle.pcr_replay.specs.declared.ignored.Ignored.{Ignored}
use Rattle.pcr_replay.specs.declared.ignored.Ignored.TheVariants.{NoPcr, OtherPcr}
use Rattle.uefi_audits.specs.Numbered.{numbered}
use Rattle.uefi_audits.specs.declared.ignored.IgnoredEvent.{IgnoredEvent}

-- An event of this index, if there is a reason why it has no effect.
unfoldable pub if_ignored : ℕ → Entry → Option Ignored → List IgnoredEvent
if_ignored index entry None = []
if_ignored index entry (Some why) =
    record { index = index; offset = entry.offset; pcr = entry.event.pcr_index; why = why } ∷ []

abbrev pub ignored_event : ℕ → Entry → List IgnoredEvent
ignored_event index entry = if_ignored index entry (why_ignored entry.event)

-- Those of a log, in order.
abbrev pub ignored_events : List Entry → List IgnoredEvent
ignored_events entries = numbered ignored_event 0 entries

-- An event should have extended a PCR that no TPM has; and whether one of some should.
abbrev pub is_no_pcr : Ignored → Bool
is_no_pcr NoPcr = true
is_no_pcr OtherPcr = false

abbrev pub has_no_pcr : List IgnoredEvent → Bool
has_no_pcr events = list_any (λ event. is_no_pcr event.why) events
