-- Whether the PCRs that a TPM held are those that a log leads to.
use Rattle.std.specs.Prelude.{ℕ, ◌≡◌, ◌↔◌, ◌==◌, ◌&&◌, not, Bool, true, false, IsTrue, List, [], ◌∷◌, map, slice_get}
use Rattle.std.specs.Prelude.{count_by, nat_lt, Option, None, Some, Ok, Err, if◌then◌else◌}
use Rattle.std.specs.List.{All, Any}
use Rattle.std.specs.Option.{option_and_then}
use Rattle.std.specs.Str.{bytes_eq}
use Rattle.pcr_replay.specs.declared.bank.Bank.{Bank}
use Rattle.pcr_replay.specs.declared.start.Start.{Start}
use Rattle.uefi_tcg.specs.Entries.{Entry}
use Rattle.pcr_replay.specs.BankReplays.{BankOutcomes, bank_outcomes_of, replayed}
use Rattle.pcr_replay.specs.Replay.{Outcome, outcomes}
use Rattle.pcr_replay.specs.Start.{start_at}
use Rattle.pcr_replay.specs.Views.{value_of}
use Rattle.uefi_audits.specs.KnownStart.{assumed_start, is_stated, known_start, start_by}
use Rattle.uefi_audits.specs.declared.known_start.KnownStart.{KnownStart}
use Rattle.uefi_audits.specs.declared.verify.held.HeldPcr.{HeldPcr}
use Rattle.uefi_audits.specs.declared.verify.verdict.Verdict.{Verdict}
use Rattle.uefi_audits.specs.verify.Banks.{held_banks, is_same_bank}

-- What the PCRs of a bank hold after a log, if it is among those that were replayed.
unfoldable pub outcomes_in : List BankOutcomes → Bank → Option (List Outcome)
outcomes_in [] bank = None
outcomes_in (found ∷ others) bank = if is_same_bank found.bank bank then Some found.outcomes else outcomes_in others bank

-- What the log leads to in the PCR that a TPM held, if there is such a PCR.
abbrev pub led_to : List BankOutcomes → HeldPcr → Option Outcome
led_to replays held = option_and_then (λ found. slice_get found held.pcr) (outcomes_in replays held.bank)

-- The PCR holds this value; or it is undetermined.
abbrev pub is_value : List ℕ → Option Outcome → Bool
is_value value None = false
is_value value (Some (Ok found)) = bytes_eq found value
is_value value (Some (Err at)) = false

abbrev pub is_undetermined : Option Outcome → Bool
is_undetermined None = false
is_undetermined (Some (Ok found)) = false
is_undetermined (Some (Err at)) = true

-- The log leads to what the TPM held; it leads to nothing or to something else; or the PCR is undetermined.
unfoldable pub agrees : List BankOutcomes → HeldPcr → Bool
agrees replays held = is_value (value_of held.value) (led_to replays held)

unfoldable pub undetermined : List BankOutcomes → HeldPcr → Bool
undetermined replays held = is_undetermined (led_to replays held)

abbrev pub differs : List BankOutcomes → HeldPcr → Bool
differs replays held = not (agrees replays held) && not (undetermined replays held)

-- How many PCRs don't agree.
abbrev pub disagreeing : List HeldPcr → List BankOutcomes → ℕ
disagreeing held replays = count_by (λ pcr. not (agrees replays pcr)) held

-- What PCRs that a TPM held are compared with: how PCR 0 starts, and what a log leads to in their banks; how many of them differ, and how many are undetermined.
pub record Comparison : Type 0 where
  pub start : KnownStart
  pub replays : List BankOutcomes
  pub differing : ℕ
  pub undetermined : ℕ

abbrev pub compared : List HeldPcr → List BankOutcomes → KnownStart → Comparison
compared held replays start = record {
  start = start;
  replays = replays;
  differing = count_by (differs replays) held;
  undetermined = count_by (undetermined replays) held;
}

-- If none differs and none is undetermined, they agree.
abbrev pub is_agreement : Comparison → Bool
is_agreement comparison = (comparison.differing == 0) && (comparison.undetermined == 0)

-- With what the events of a log lead to in the banks of which a PCR is held, in a TPM that started so.
abbrev pub compared_at : List Entry → List HeldPcr → KnownStart → Comparison
compared_at entries held start = compared held (map (replayed start.start entries) (held_banks held)) start

-- Of two, the one in which fewer PCRs disagree, and the first if as many do.
abbrev pub nearer : List HeldPcr → Comparison → Comparison → Comparison
nearer held one other = if nat_lt (disagreeing held other.replays) (disagreeing held one.replays) then other else one

-- The nearest of those with a start at 0, 3 and 4, which nobody states.
abbrev pub nearest : List Entry → List HeldPcr → Comparison
nearest entries held =
    nearer held (nearer held (compared_at entries held (assumed_start 0)) (compared_at entries held (assumed_start 3)))
    (compared_at entries held (assumed_start 4))

-- The verdict on PCRs that a TPM held, by the locality that the caller states, if any, and the events of a log.
unfoldable pub verdict_of : Option ℕ → List Entry → List HeldPcr → Comparison
verdict_of locality entries held =
    if is_stated locality entries then compared_at entries held (known_start locality entries) else nearest entries held

-- What a value of the code stands for.
abbrev pub comparison_of : {A : Type 0} → Verdict A → Comparison
comparison_of verdict = record {
  start = verdict.start;
  replays = map bank_outcomes_of verdict.replays.items;
  differing = verdict.differing;
  undetermined = verdict.undetermined;
}

-- The events of a log, in a TPM that started so, lead to these PCRs.
abbrev pub Agree : Start → List Entry → List HeldPcr → Type 0
Agree start entries held =
    All (λ pcr. slice_get (outcomes pcr.bank start entries) pcr.pcr ≡ Some (Ok (value_of pcr.value))) held

-- They do in a TPM that started in one of the ways that are tried: as is stated, or else at 0, 3 or 4.
abbrev pub starts : Option ℕ → List Entry → List Start
starts locality entries =
    if is_stated locality entries then start_by locality entries ∷ []
    else start_at 0 ∷ start_at 3 ∷ start_at 4 ∷ []

abbrev pub AgreeAtOne : Option ℕ → List Entry → List HeldPcr → Type 0
AgreeAtOne locality entries held = Any (λ start. Agree start entries held) (starts locality entries)

-- In a TPM that started so they do exactly if the comparison is that they agree.
abbrev pub AgreeByVerdict : Type 0
AgreeByVerdict = (start : KnownStart) (entries : List Entry) (held : List HeldPcr)
    → IsTrue (is_agreement (compared_at entries held start)) ↔ Agree start.start entries held
