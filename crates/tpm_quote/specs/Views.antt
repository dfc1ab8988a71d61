-- What contracts see of quotes.
use Rattle.std.specs.Prelude.{ℕ, ◌-◌, List, filter}
use Rattle.tpm_quote.specs.PcrSelection.{HasSelections, is_selected, numbers}
use Rattle.tpm_quote.specs.PcrSelection as selections
use Rattle.tpm_quote.specs.Quote as quotes
use Rattle.tpm_quote.specs.declared.clock_info.ClockInfo.{ClockInfo}
use Rattle.tpm_quote.specs.declared.pcr_selection.PcrSelection.{PcrSelection}
use Rattle.tpm_quote.specs.declared.pcr_selection_iter.PcrSelectionIter.{PcrSelectionIter}
use Rattle.tpm_quote.specs.declared.quote.Quote.{Quote}
use Rattle.tpm_quote.specs.declared.selected_pcrs.SelectedPcrs.{SelectedPcrs}
use Rattle.uefi_tcg.specs.declared.pcr_index.PcrIndex.{PcrIndex}

abbrev pub clock_info_of : ClockInfo → quotes.ClockInfo
clock_info_of view = record {
  clock = view.clock;
  reset_count = view.reset_count;
  restart_count = view.restart_count;
  safe = view.safe;
}

abbrev pub selection_of : PcrSelection → selections.PcrSelection
selection_of view = record { algorithm = view.algorithm.0; bitmap = view.bitmap.now }

-- The selections that an iterator hasn't returned yet: its bytes begin with them, and it counts them.
abbrev pub selections_left : PcrSelectionIter → List selections.PcrSelection
selections_left iter = let left : HasSelections iter.count iter.rest.now = iter.left in left.selections

abbrev pub quote_of : Quote → quotes.Quote
quote_of view = record {
  qualified_signer = view.qualified_signer.now;
  extra_data = view.extra_data.now;
  clock_info = clock_info_of view.clock_info;
  firmware_version = view.firmware_version;
  pcr_selections = selections_left view.pcr_selections;
  pcr_digest = view.pcr_digest.now;
}

-- The number of a PCR, and the PCRs that an iterator hasn't returned yet.
abbrev pub pcr_of : PcrIndex → ℕ
pcr_of pcr = pcr.0

abbrev pub pcrs_left : SelectedPcrs → List ℕ
pcrs_left iter = filter (is_selected (selection_of iter.selection)) (numbers iter.next (24 - iter.next))
