-- The events of a log that are out of place, and the PCRs of firmware without a separator (TCG PC Client Platform Firmware Profile 1.06, 3.3.4 and 10.4.1). No digest covers an event's type, nor that the log has it here.
use Rattle.std.specs.Prelude.{ℕ, ◌==◌, ◌||◌, ◌&&◌, not, nat_lt, Bool, false, List, [], ◌∷◌, codes, length, map, take, Option, None, Some, if◌then◌else◌}
use Rattle.std.specs.List.{filter, flat_map, list_any, range_with_len}
use Rattle.std.specs.Str.{bytes_eq}
use Rattle.uefi_tcg.specs.Entries.{Entry}
use Rattle.uefi_tcg.specs.LogViews.{entry_of}
use Rattle.uefi_tcg.specs.declared.event_type.EventType.{EventType}
use Rattle.uefi_tcg.specs.declared.event_type.TheConstants.EventType.{NO_ACTION, SEPARATOR, IPL, EFI_EVENT_BASE}
use Rattle.uefi_tcg.specs.v2.Event.{Event}
use Rattle.pcr_replay.specs.Banks.{all_banks}
use Rattle.pcr_replay.specs.Measured.{is_hash_of}
use Rattle.uefi_audits.specs.Findings.{Finding, is_outside}
use Rattle.uefi_audits.specs.Numbered.{numbered}
use Rattle.uefi_audits.specs.TypesByPcr.{types_after_separator, types_in, types_of_bios}
use Rattle.uefi_audits.specs.declared.out_of_place.OutOfPlace.{OutOfPlace}
use Rattle.uefi_audits.specs.declared.out_of_place.Remarks.{Remarks}
use Rattle.uefi_audits.specs.declared.out_of_place.rule.Rule.{Rule}
use Rattle.uefi_audits.specs.declared.out_of_place.rule.Rule.TheVariants.{SecondSeparator, SeparatorValue, OtherType, AfterSeparator, Unlogged}

abbrev pub pcr_of : Finding → ℕ
pcr_of it = it.entry.event.pcr_index

abbrev pub has_type : Finding → EventType → Bool
has_type it kind = it.entry.event.event_type == kind.0

-- An event is of one of these types.
abbrev pub is_of_type : List EventType → Finding → Bool
is_of_type types it = list_any (λ kind. kind.0 == it.entry.event.event_type) types

-- The number of PCRs of firmware, 0 to 7. A separator of each ends what firmware measures before it boots.
abbrev pub firmware_pcrs : ℕ
firmware_pcrs = 8

abbrev pub separates : ℕ → Finding → Bool
separates pcr it = (pcr_of it == pcr) && has_type it SEPARATOR

-- An event before this index is the PCR's separator.
abbrev pub is_separated : ℕ → List Finding → ℕ → Bool
is_separated pcr findings index = list_any (separates pcr) (take index findings)

-- The data of a separator: 0 or 0xFFFFFFFF, in four bytes.
abbrev pub is_separator_value : List ℕ → Bool
is_separator_value bytes = bytes_eq bytes (0 ∷ 0 ∷ 0 ∷ 0 ∷ []) || bytes_eq bytes (0xff ∷ 0xff ∷ 0xff ∷ 0xff ∷ [])

unfoldable pub separator_rule : Bool → List ℕ → Option Rule
separator_rule separated bytes =
    if separated then Some SecondSeparator else if is_separator_value bytes then None else Some SeparatorValue

-- An event may follow the separator of its PCR: by its type, or in the log of a BIOS.
abbrev pub may_follow : Bool → Finding → Bool
may_follow bios it = is_of_type (types_after_separator (pcr_of it)) it || (bios && is_of_type types_of_bios it)

-- The rule that an event of a PCR of firmware breaks. PCR 7 has events whose data were measured, alone.
unfoldable pub firmware_rule : Bool → Bool → Finding → Option Rule
firmware_rule bios separated it =
    if has_type it SEPARATOR then separator_rule separated it.entry.event.event_data
    else if not (is_of_type (types_in (pcr_of it)) it) then Some OtherType
    else if separated && not (may_follow bios it) then Some AfterSeparator
    else if (pcr_of it == 7) && is_outside it.checked then Some Unlogged
    else None

-- The rule of PCR 8, which has commands as `EV_IPL`: the log has what was measured. Other events of a BIOS's loader aren't judged.
unfoldable pub command_rule : Bool → Finding → Option Rule
command_rule bios it =
    if not (has_type it IPL) then (if bios then None else Some OtherType)
    else if is_outside it.checked then Some Unlogged else None

-- The rule that an event of PCR 0 to 8 breaks, the first one.
unfoldable pub broken_rule : Bool → Bool → Finding → Option Rule
broken_rule bios separated it =
    if has_type it NO_ACTION then None
    else if nat_lt (pcr_of it) firmware_pcrs then firmware_rule bios separated it
    else command_rule bios it

-- An event that is out of place: its index in the log, and the rule that it breaks.
pub record Misplaced : Type 0 where
  pub index : ℕ
  pub entry : Entry
  pub rule : Rule

unfoldable pub if_broken : ℕ → Entry → Option Rule → List Misplaced
if_broken index entry None = []
if_broken index entry (Some rule) = record { index = index; entry = entry; rule = rule } ∷ []

-- Whether an event of this index is one, if it is of this PCR.
unfoldable pub rule_at : ℕ → Bool → Bool → Finding → Option Rule
rule_at pcr bios separated it = if pcr_of it == pcr then broken_rule bios separated it else None

abbrev pub if_misplaced : ℕ → Bool → List Finding → ℕ → Finding → List Misplaced
if_misplaced pcr bios findings index it = if_broken index it.entry (rule_at pcr bios (is_separated pcr findings index) it)

-- Those of a PCR, in order.
abbrev pub misplaced_in : Bool → List Finding → ℕ → List Misplaced
misplaced_in bios findings pcr = numbered (if_misplaced pcr bios findings) 0 findings

-- The log is that of a BIOS: it has no event of UEFI.
abbrev pub is_of_uefi : Finding → Bool
is_of_uefi it = not (nat_lt it.entry.event.event_type EFI_EVENT_BASE.0)

abbrev pub is_of_bios : List Finding → Bool
is_of_bios findings = not (list_any is_of_uefi findings)

-- Those of all PCRs that are judged, by PCR: those of firmware, and PCR 8.
abbrev pub judged_pcrs : ℕ
judged_pcrs = 9

abbrev pub misplaced : List Finding → List Misplaced
misplaced findings = flat_map (misplaced_in (is_of_bios findings) findings) (range_with_len 0 judged_pcrs)

-- The PCRs of firmware without a separator.
abbrev pub without_separator : List Finding → List ℕ
without_separator findings = filter (λ pcr. not (list_any (separates pcr) findings)) (range_with_len 0 firmware_pcrs)

-- An event of this PCR says that the operating system takes over from firmware. Its digest of a bank says so, which nobody can change without changing the PCR.
abbrev pub exit_text : List ℕ
exit_text = codes "Exit Boot Services Invocation"

abbrev pub is_exit : Event → Bool
is_exit event = list_any (λ bank. is_hash_of bank exit_text event) all_banks

abbrev pub exits : ℕ → Finding → Bool
exits pcr it = (pcr_of it == pcr) && is_exit it.entry.event

abbrev pub has_exit : ℕ → List Finding → Bool
has_exit pcr findings = list_any (exits pcr) findings

-- An event extends a PCR whose number no register of confidential computing has: these are 0 to 4.
abbrev pub is_above_registers : Finding → Bool
is_above_registers it = nat_lt 4 (pcr_of it) && not (has_type it NO_ACTION)

-- The log is of confidential computing, whose registers aren't PCRs: what PCR 5 has elsewhere is of register 2 (UEFI 2.10, 38.4.1).
abbrev pub is_confidential : List Finding → Bool
is_confidential findings = has_exit 2 findings && not (list_any is_above_registers findings)

-- The remarks on a log: the events out of place, the PCRs without a separator, and whether the boot got as far as the operating system.
pub record Remarked : Type 0 where
  pub events : List Misplaced
  pub unseparated : List ℕ
  pub has_exited : Bool

unfoldable pub remarks_if : Bool → List Finding → Remarked
remarks_if confidential findings =
    if confidential then record { events = []; unseparated = []; has_exited = false }
    else record { events = misplaced findings; unseparated = without_separator findings; has_exited = has_exit 5 findings }

abbrev pub remarks_in : List Finding → Remarked
remarks_in findings = remarks_if (is_confidential findings) findings

-- They count against the log: there are some, and the operating system took over. Else the log may end before an event that is missing.
abbrev pub are_faults : Remarked → Bool
are_faults it = it.has_exited && (nat_lt 0 (length it.events) || nat_lt 0 (length it.unseparated))

-- What a value of the code stands for.
abbrev pub misplaced_of : OutOfPlace → Misplaced
misplaced_of it = record { index = it.index; entry = entry_of it.entry; rule = it.rule }

abbrev pub remarks_of : {A : Type 0} → Remarks A → Remarked
remarks_of it =
    record { events = map misplaced_of it.events.items; unseparated = it.unseparated.items; has_exited = it.has_exited }
