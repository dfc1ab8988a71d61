-- The PCRs that a quote covers.
use Rattle.std.specs.Prelude.{ℕ, ◌==◌, ◌&&◌, Bool, List, [], flat_map, map, Option, None, Some}
use Rattle.std.specs.List.{list_any}
use Rattle.tpm_quote.specs.PcrSelection.{PcrSelection, selected_pcrs}
use Rattle.tpm_quote.specs.Quote.{Quote}
use Rattle.pcr_replay.specs.Banks.{algorithm_of}
use Rattle.pcr_replay.specs.declared.bank.Bank.{Bank}
use Rattle.uefi_audits.specs.Naming.{bank_of}
use Rattle.uefi_audits.specs.declared.verify.named.NamedPcr.{NamedPcr}

-- PCRs of a bank; none if it can't be replayed.
unfoldable pub named_in : Option Bank → List ℕ → List NamedPcr
named_in None pcrs = []
named_in (Some bank) pcrs = map (λ pcr. record { bank = bank; pcr = pcr }) pcrs

-- Those that a selection selects, ascending; and those that a quote covers, in its order.
abbrev pub covered_by : PcrSelection → List NamedPcr
covered_by selection = named_in (bank_of selection.algorithm) (selected_pcrs selection)

abbrev pub covered_pcrs : Quote → List NamedPcr
covered_pcrs quote = flat_map covered_by quote.pcr_selections

-- A PCR of a bank is among them: a selection of the bank's algorithm selects it.
abbrev pub is_selected_by : PcrSelection → ℕ → Bool
is_selected_by selection pcr = list_any (λ it. it == pcr) (selected_pcrs selection)

abbrev pub is_covered : Quote → Bank → ℕ → Bool
is_covered quote bank pcr =
    list_any (λ selection. (selection.algorithm == algorithm_of bank) && is_selected_by selection pcr) quote.pcr_selections
