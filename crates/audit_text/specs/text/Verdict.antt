-- What `uefi_audit verify` prints of whether the PCRs that a TPM held are those that a log leads to.
use Rattle.std.specs.Prelude.{ℕ, zero, suc, List, [], ◌++◌, codes}
use Rattle.std.specs.Prelude.{flat_map, map, Option, None, Some, Ok, Err, if◌then◌else◌}
use Rattle.std.specs.Fmt.{decimal}
use Rattle.hex.specs.Hex.{encode_upper}
use Rattle.pcr_replay.specs.Replay.{Outcome}
use Rattle.pcr_replay.specs.Texts.{undetermined_text as event_text}
use Rattle.pcr_replay.specs.Views.{value_of}
use Rattle.uefi_audits.specs.Naming.{bank_name}
use Rattle.audit_text.specs.text.Agreement.{agree_line}
use Rattle.shown.specs.Name.{shown_name}
use Rattle.uefi_audits.specs.declared.verify.held.HeldPcr.{HeldPcr}
use Rattle.uefi_audits.specs.verify.Named.{name_of}
use Rattle.uefi_audits.specs.verify.Verdict.{Comparison, agrees, is_agreement, led_to}

-- Where PCR 0 starts.
unfoldable pub start_text : ℕ → ℕ → List ℕ
start_text zero locality = codes ", PCR 0 starts at locality " ++ decimal locality
start_text (suc pcr) locality = []

-- A value to which a log leads.
unfoldable pub value_text : ℕ → ℕ → List ℕ → List ℕ
value_text pcr locality value = codes ", the log leads to 0x" ++ (encode_upper value ++ (start_text pcr locality ++ codes "\n"))

-- What a log leads to in a PCR: a value, or an event by which it is undetermined, or nothing, since there is no such PCR.
unfoldable pub outcome_text : ℕ → ℕ → Option Outcome → List ℕ
outcome_text pcr locality None = codes ", and the log has no such PCR\n"
outcome_text pcr locality (Some (Ok value)) = value_text pcr locality value
outcome_text pcr locality (Some (Err at)) = codes ", undetermined: " ++ (event_text at ++ codes "\n")

-- The line of a PCR that doesn't agree: the log, the bank, the PCR and what it held, and what the log leads to.
abbrev pub held_text : List ℕ → HeldPcr → List ℕ
held_text name held =
    shown_name name ++ (codes ": " ++ (bank_name held.bank ++ (codes " PCR " ++ (decimal held.pcr ++ (codes " held 0x" ++ encode_upper (value_of held.value))))))

unfoldable pub line_of : List ℕ → Comparison → HeldPcr → List ℕ
line_of name comparison held =
    if agrees comparison.replays held then []
    else held_text name held ++ outcome_text held.pcr comparison.start.start.locality (led_to comparison.replays held)

-- What is printed: one line if all PCRs agree, else one for each that doesn't, in order.
abbrev pub verdict_lines : List ℕ → Comparison → List HeldPcr → List ℕ
verdict_lines name comparison held =
    if is_agreement comparison then agree_line name (map name_of held) comparison.start.start.locality
    else flat_map (line_of name comparison) held
