-- What the digests of an event are the hash of, by the event's type (TCG PC Client Platform Firmware Profile 1.06, 10.4.1; for `EV_IPL` what GRUB, shim and systemd-stub measure).
use Rattle.std.specs.Prelude.{ℕ, ◌≡◌, ◌⊎◌, ◌==◌, ◌||◌, ◌&&◌, not, Bool, true, List, [], ◌∷◌, ◌++◌, flat_map, Some, if◌then◌else◌}
use Rattle.std.specs.List.{All, Contains, list_all, list_any}
use Rattle.tcg_event.specs.Text.{prompts}
use Rattle.tcg_event.specs.Variable.{Variable, ReadsVariable}
use Rattle.uefi_tcg.specs.declared.event_type.TheConstants.EventType.{SEPARATOR, ACTION, EVENT_TAG, CRTM_VERSION, PLATFORM_CONFIG_FLAGS, TABLE_OF_DEVICES, IPL, OMIT_BOOT_DEVICE_EVENTS}
use Rattle.uefi_tcg.specs.declared.event_type.TheConstants.EventType.{EFI_VARIABLE_DRIVER_CONFIG, EFI_VARIABLE_BOOT, EFI_GPT_EVENT, EFI_ACTION, EFI_VARIABLE_BOOT2, EFI_GPT_EVENT2, EFI_VARIABLE_AUTHORITY}
use Rattle.uefi_tcg.specs.declared.event_type.TheConstants.EventType.{EFI_SPDM_FIRMWARE_BLOB, EFI_SPDM_FIRMWARE_CONFIG, EFI_SPDM_DEVICE_POLICY, EFI_SPDM_DEVICE_AUTHORITY}
use Rattle.uefi_tcg.specs.v2.Event.{Event}
use Rattle.pcr_replay.specs.Banks.{all_banks}
use Rattle.pcr_replay.specs.declared.bank.Bank.{Bank}
use Rattle.pcr_replay.specs.Measured.{is_hash_of}
use Rattle.pcr_replay.specs.Replay.{has_digest}
use Rattle.uefi_audits.specs.declared.check.Checked.{Checked}
use Rattle.uefi_audits.specs.declared.check.Checked.TheVariants.{Matches, MatchesNone, NotInLog}
use Rattle.uefi_audits.specs.declared.check.form.Form.{Form}
use Rattle.uefi_audits.specs.declared.check.form.Form.TheVariants.{Data, VariableValue, WithoutNul, WithNul, Command, Narrowed}

-- A number is one of these.
abbrev pub is_one_of : List ℕ → ℕ → Bool
is_one_of numbers number = list_any (λ it. it == number) numbers

-- The types whose events measure all of their data.
abbrev pub measures_data : ℕ → Bool
measures_data =
    is_one_of (SEPARATOR.0 ∷ ACTION.0 ∷ CRTM_VERSION.0 ∷ OMIT_BOOT_DEVICE_EVENTS.0 ∷ EFI_VARIABLE_DRIVER_CONFIG.0
    ∷ EFI_GPT_EVENT.0 ∷ EFI_ACTION.0 ∷ EFI_VARIABLE_AUTHORITY.0 ∷ [])

-- The types whose events measure their data, or what these describe: tagged data, and where firmware chooses the data.
abbrev pub may_describe : ℕ → Bool
may_describe =
    is_one_of (EVENT_TAG.0 ∷ PLATFORM_CONFIG_FLAGS.0 ∷ TABLE_OF_DEVICES.0 ∷ EFI_GPT_EVENT2.0 ∷ EFI_SPDM_FIRMWARE_BLOB.0
    ∷ EFI_SPDM_FIRMWARE_CONFIG.0 ∷ EFI_SPDM_DEVICE_POLICY.0 ∷ EFI_SPDM_DEVICE_AUTHORITY.0 ∷ [])

-- The types of variables of booting: firmware measures the variable's value, or the whole structure.
abbrev pub measures_value : ℕ → Bool
measures_value = is_one_of (EFI_VARIABLE_BOOT.0 ∷ EFI_VARIABLE_BOOT2.0 ∷ [])

-- The type whose data are a text.
abbrev pub measures_text : ℕ → Bool
measures_text event_type = event_type == IPL.0

-- The forms of what events of a type measure. Of other types the log has nothing that is measured.
unfoldable pub forms_of : ℕ → List Form
forms_of event_type =
    if measures_data event_type || may_describe event_type then Data ∷ []
    else if measures_value event_type then VariableValue ∷ Data ∷ []
    else if measures_text event_type then Data ∷ WithoutNul ∷ WithNul ∷ Command ∷ Narrowed ∷ []
    else []

-- What GRUB measures: what follows what it writes before it, without the closing NUL.
abbrev pub IsCommand : List ℕ → List ℕ → Type 0
IsCommand bytes command = (prompt : List ℕ) × Contains prompts prompt × (bytes ≡ (prompt ++ command) ++ 0 ∷ [])

-- Bytes as units of UTF-16.
abbrev pub widened : List ℕ → List ℕ
widened bytes = flat_map (λ byte. byte ∷ 0 ∷ []) bytes

-- The bytes that data measure in a form.
unfoldable pub Measures : Form → List ℕ → List ℕ → Type 0
Measures Data whole bytes = bytes ≡ whole
Measures VariableValue whole bytes = (variable : Variable) × ReadsVariable whole (Some variable) × (bytes ≡ variable.payload)
Measures WithoutNul whole bytes = whole ≡ bytes ++ 0 ∷ []
Measures WithNul whole bytes = bytes ≡ whole ++ 0 ∷ []
Measures Command whole bytes = IsCommand whole bytes
Measures Narrowed whole bytes = whole ≡ widened bytes

-- An event has a digest of a bank that can be replayed.
abbrev pub has_digests : Event → Bool
has_digests event = list_any (λ bank. has_digest bank event) all_banks

-- An event's digest of a bank is the hash of these bytes, if it has one.
abbrev pub agrees : List ℕ → Event → Bank → Bool
agrees bytes event bank = not (has_digest bank event) || is_hash_of bank bytes event

-- An event has digests of banks that can be replayed, and each is the hash of these bytes.
abbrev pub are_hashes : List ℕ → Event → Bool
are_hashes bytes event = has_digests event && list_all (agrees bytes event) all_banks

abbrev pub MatchesBy : Event → Form → Type 0
MatchesBy event form = (bytes : List ℕ) × Measures form event.event_data bytes × (are_hashes bytes event ≡ true)

abbrev pub MatchesNoneOf : Event → List Form → Type 0
MatchesNoneOf event forms = All (λ form. MatchesBy event form → ⊥) forms

-- The first of some forms in which an event matches.
abbrev pub IsFirstMatch : Event → List Form → Form → Type 0
IsFirstMatch event forms form = (before : List Form) × (after : List Form) × (forms ≡ before ++ form ∷ after)
    × MatchesNoneOf event before × MatchesBy event form

-- A text of `EV_IPL` that is no command may name a file, which was measured.
abbrev pub MayNameFile : Event → Type 0
MayNameFile event = (measures_text event.event_type ≡ true) × ((command : List ℕ) → IsCommand event.event_data command → ⊥)

-- The data may describe or name what was measured, which isn't in the log: Linux's stub and systemd-stub tag the options of a loaded image and the initial RAM disk by their names, OVMF writes `ACPI DATA` for tables, and a text may name a file.
abbrev pub MayMeasureOther : Event → Type 0
MayMeasureOther event = (may_describe event.event_type ≡ true) ⊎ MayNameFile event

-- The log doesn't have what was measured: the event's type has no forms, or the event may measure something else than its data.
abbrev pub IsOutside : Event → Type 0
IsOutside event = (forms_of event.event_type ≡ []) ⊎ MayMeasureOther event

-- What is said of an event.
abbrev pub IsChecked : Event → Checked → Type 0
IsChecked event (Matches form) = IsFirstMatch event (forms_of event.event_type) form
IsChecked event MatchesNone = MatchesNoneOf event (forms_of event.event_type) × (IsOutside event → ⊥)
IsChecked event NotInLog = MatchesNoneOf event (forms_of event.event_type) × IsOutside event
