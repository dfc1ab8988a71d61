-- Why the event that a log begins with isn't its header, though its data are one's (TCG PC Client Platform Firmware Profile 1.06, 10.4.5.1, "Specification ID Version Event").
use Rattle.std.specs.Prelude.{ℕ, ◌==◌, ◌&&◌, ◌++◌, ◌∷◌, not, Bool, List, [], codes, Option, None, Some, if◌then◌else◌}
use Rattle.std.specs.List.{list_all, starts_with}
use Rattle.uefi_tcg.specs.v2.Event.{Event}
use Rattle.uefi_tcg.specs.v2.Header.{Header}
use Rattle.uefi_tcg.specs.Entries.{Entry}
use Rattle.uefi_tcg.specs.declared.event_type.TheConstants.EventType.{NO_ACTION}
use Rattle.pcr_replay.specs.ReadLogs.{entries_in, header_in}
use Rattle.pcr_replay.specs.declared.read_log.ReadLog.{ReadLog}
use Rattle.uefi_audits.specs.declared.header_fault.HeaderFault.{HeaderFault}
use Rattle.uefi_audits.specs.declared.header_fault.HeaderFault.TheVariants.{Pcr, Digest}

-- An event extends nothing, and its data begin as those of a header do.
abbrev pub is_header_like : Event → Bool
is_header_like event =
    (event.event_type == NO_ACTION.0) && starts_with ◌==◌ event.event_data (codes "Spec ID Event03" ++ 0 ∷ [])

-- Each byte of its digests is zero.
abbrev pub is_zero : List ℕ → Bool
is_zero bytes = list_all (λ byte. byte == 0) bytes

abbrev pub has_zero_digests : Event → Bool
has_zero_digests event = list_all (λ digest. is_zero digest.bytes) event.digests

-- The event of a header is of PCR 0, and its digest is zero.
unfoldable pub event_fault : Event → Option HeaderFault
event_fault event =
    if not (is_header_like event) then None
    else if not (event.pcr_index == 0) then Some (Pcr event.pcr_index)
    else if has_zero_digests event then None
    else Some Digest

unfoldable pub first_fault : List Entry → Option HeaderFault
first_fault [] = None
first_fault (entry ∷ entries) = event_fault entry.event

-- A log that has a header has no such event.
unfoldable pub fault_without : Option Header → List Entry → Option HeaderFault
fault_without (Some header) entries = None
fault_without None entries = first_fault entries

abbrev pub header_fault : {A : Type 0} → ReadLog A → Option HeaderFault
header_fault read = fault_without (header_in read) (entries_in read)
