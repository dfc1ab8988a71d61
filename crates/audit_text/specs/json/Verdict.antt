-- What `uefi_audit verify --json` prints of a log: an object that says whether the PCRs that a TPM held are those that the log leads to.
use Rattle.std.specs.Prelude.{ℕ, List, [], ◌∷◌, ◌++◌, length, flat_map, codes, Option, None, Some, Ok, Err, if◌then◌else◌}
use Rattle.hex.specs.Hex.{encode_lower}
use Rattle.audit_text.specs.json.Json.{Json, null, boolean, number, string, array, object}
use Rattle.pcr_replay.specs.declared.fault.Undetermined.{Undetermined}
use Rattle.pcr_replay.specs.Replay.{Outcome}
use Rattle.pcr_replay.specs.Texts.{fault_text}
use Rattle.pcr_replay.specs.Views.{value_of}
use Rattle.pcr_replay.specs.BankReplays.{BankOutcomes}
use Rattle.audit_text.specs.json.Line.{json_line}
use Rattle.uefi_audits.specs.Naming.{bank_name}
use Rattle.uefi_audits.specs.declared.verify.held.HeldPcr.{HeldPcr}
use Rattle.uefi_audits.specs.verify.Compared.{PcrsJudged, pcrs_agree}
use Rattle.uefi_audits.specs.verify.Coverage.{is_whole}
use Rattle.uefi_audits.specs.verify.Verdict.{agrees, is_agreement, led_to}
use Rattle.audit_text.specs.json.Coverage.{covered_json, not_covered_json, unless}

-- What the log leads to in a PCR, in hex; `null` if it leads to no value.
abbrev pub led_json : Option Outcome → Json
led_json None = null
led_json (Some (Ok value)) = string (encode_lower value)
led_json (Some (Err at)) = null

-- The event by which a PCR is undetermined.
abbrev pub event_json : Undetermined → Json
event_json at =
    object (
    (codes "index", number at.index)
    ∷ (codes "offset", number at.offset)
    ∷ (codes "reason", string (fault_text at.fault)) ∷ [])

-- That event; `null` if the PCR isn't undetermined.
unfoldable pub undetermined_by : Option Outcome → Json
undetermined_by None = null
undetermined_by (Some (Ok value)) = null
undetermined_by (Some (Err at)) = event_json at

-- A PCR that doesn't agree: its bank, what it held, what the log leads to, its index, and the event by which it is undetermined.
unfoldable pub pcr_json : HeldPcr → Option Outcome → Json
pcr_json held outcome =
    object (
    (codes "bank", string (bank_name held.bank))
    ∷ (codes "held", string (encode_lower (value_of held.value)))
    ∷ (codes "leads_to", led_json outcome)
    ∷ (codes "pcr", number held.pcr)
    ∷ (codes "undetermined", undetermined_by outcome) ∷ [])

-- Nothing for a PCR that agrees.
unfoldable pub if_disagreeing : List BankOutcomes → HeldPcr → List Json
if_disagreeing replays held = if agrees replays held then [] else pcr_json held (led_to replays held) ∷ []

-- What doesn't agree: a PCR, or what is compared.
unfoldable pub failed_json : PcrsJudged → Json
failed_json judged =
    array (unless (is_agreement judged.comparison) (codes "pcrs") ++ unless (is_whole judged.covering) (codes "coverage"))

-- The object: whether all agrees, how many PCRs are compared, which, those that don't agree, what fails, the locality at which PCR 0 starts, the name of the log, and the PCRs that aren't compared.
unfoldable pub verdict_json : List ℕ → PcrsJudged → Json
verdict_json name judged =
    object (
    (codes "agrees", boolean (pcrs_agree judged))
    ∷ (codes "count", number (length judged.held))
    ∷ (codes "covered", covered_json judged.covering.covered)
    ∷ (codes "disagreeing", array (flat_map (if_disagreeing judged.comparison.replays) judged.held))
    ∷ (codes "failed", failed_json judged)
    ∷ (codes "locality", number judged.comparison.start.start.locality)
    ∷ (codes "log", string name)
    ∷ (codes "not_covered", not_covered_json judged.covering) ∷ [])

-- Its line.
abbrev pub verdict_line : List ℕ → PcrsJudged → List ℕ
verdict_line name judged = json_line (verdict_json name judged)
