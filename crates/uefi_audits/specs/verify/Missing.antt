-- The PCRs that are asked for by the option `--pcrs`, and not stated.
use Rattle.std.specs.Prelude.{ℕ, ◌==◌, ◌&&◌, ◌||◌, not, Bool, List, [], flat_map, map, is_some}
use Rattle.std.specs.List.{filter, list_any, range_with_len}
use Rattle.pcr_replay.specs.Banks.{all_banks}
use Rattle.pcr_replay.specs.declared.bank.Bank.{Bank}
use Rattle.pcr_replay.specs.Replay.{pcr_count}
use Rattle.uefi_audits.specs.verify.Banks.{is_same_bank}
use Rattle.uefi_audits.specs.verify.Selection.{selects}
use Rattle.uefi_audits.specs.declared.verify.named.NamedPcr.{NamedPcr}
use Rattle.uefi_audits.specs.declared.verify.selection.PcrSelection.{PcrSelection}

-- A PCR is among those that are stated; and one of a bank is.
abbrev pub is_among : List NamedPcr → Bank → ℕ → Bool
is_among stated bank pcr = list_any (λ it. is_same_bank it.bank bank && (it.pcr == pcr)) stated

abbrev pub is_stated : List NamedPcr → Bank → Bool
is_stated stated bank = list_any (λ it. is_same_bank it.bank bank) stated

-- A PCR is asked for by a selection: it is selected, and the selection names a bank, or PCRs of the bank are stated.
abbrev pub is_asked_by : PcrSelection → List NamedPcr → Bank → ℕ → Bool
is_asked_by selection stated bank pcr = selects selection bank pcr && (is_some selection.bank || is_stated stated bank)

-- By one of these; and it isn't stated.
abbrev pub is_asked : List PcrSelection → List NamedPcr → Bank → ℕ → Bool
is_asked selections stated bank pcr = list_any (λ selection. is_asked_by selection stated bank pcr) selections

abbrev pub is_missing : List PcrSelection → List NamedPcr → Bank → ℕ → Bool
is_missing selections stated bank pcr = is_asked selections stated bank pcr && not (is_among stated bank pcr)

-- Those of a bank, and those of all: none without selections.
abbrev pub missing_of : List PcrSelection → List NamedPcr → Bank → List NamedPcr
missing_of selections stated bank =
    map (λ pcr. record { bank = bank; pcr = pcr }) (filter (is_missing selections stated bank) (range_with_len 0 pcr_count))

unfoldable pub missing_pcrs : List PcrSelection → List NamedPcr → List NamedPcr
missing_pcrs selections stated = flat_map (missing_of selections stated) all_banks

-- Those that selections ask for, each of which names a bank: none of them is stated.
abbrev pub asked_pcrs : List PcrSelection → List NamedPcr
asked_pcrs selections = missing_pcrs selections []
