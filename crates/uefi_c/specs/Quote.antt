-- Quotes of a TPM (TPM 2.0 Library, Part 2, TPMS_ATTEST with TPMS_QUOTE_INFO), as calls give them.
use Rattle.std.specs.Prelude.{ℕ, ◌≡◌, ◌^◌, List}
use Rattle.std.specs.List.{sum_by}
use Rattle.tpm_quote.specs.PcrSelection.{PcrSelection, selected_pcrs}
use Rattle.tpm_quote.specs.Quote.{Quote, IsQuote, quote_bytes}
use Rattle.tpm_quote.specs.declared.quote_error.QuoteError.{QuoteError}
use Rattle.tpm_quote.specs.declared.quote_error.QuoteError.TheVariants.{NotGenerated, NotQuote, Safe, Selection, TooShort, LeftOver}
use Rattle.uefi_c.specs.Status.{bad_safe, bad_selection, left_over, not_generated, not_quote, too_short}
use Rattle.uefi_c.specs.declared.quote.UefiPcrSelection.{UefiPcrSelection}
use Rattle.uefi_c.specs.declared.quote.UefiQuote.{UefiQuote}

-- The bytes are this quote, whole and alone; or some quote.
abbrev pub AreQuote : List ℕ → Quote → Type 0
AreQuote bytes quote = IsQuote quote × (bytes ≡ quote_bytes quote)

abbrev pub HasQuote : List ℕ → Type 0
HasQuote bytes = (quote : Quote) × AreQuote bytes quote

-- The quote of the fields that a call gave, and of these selections.
abbrev pub quote_seen : UefiQuote → List PcrSelection → Quote
quote_seen seen selections = record {
  qualified_signer = seen.qualified_signer.now;
  extra_data = seen.extra_data.now;
  clock_info = record {
    clock = seen.clock;
    reset_count = seen.reset_count;
    restart_count = seen.restart_count;
    safe = seen.safe;
  };
  firmware_version = seen.firmware_version;
  pcr_selections = selections;
  pcr_digest = seen.pcr_digest.now;
}

-- The bytes are the quote of these fields and of some selections.
abbrev pub HasFields : List ℕ → UefiQuote → Type 0
HasFields bytes seen = (selections : List PcrSelection) × AreQuote bytes (quote_seen seen selections)

-- The status of each fault.
abbrev pub status_of : QuoteError → ℕ
status_of NotGenerated = not_generated
status_of (NotQuote kind) = not_quote
status_of (Safe value) = bad_safe
status_of Selection = bad_selection
status_of TooShort = too_short
status_of LeftOver = left_over

-- PCRs as a set of bits: bit n is PCR n.
abbrev pub set_of : List ℕ → ℕ
set_of pcrs = sum_by (λ pcr. 2 ^ pcr) pcrs

-- A selection as a call gives it: the algorithm of its bank, and the set of its PCRs.
abbrev pub selection_given : PcrSelection → ℕ × ℕ
selection_given selection = (selection.algorithm, set_of (selected_pcrs selection))

abbrev pub selection_seen : UefiPcrSelection → ℕ × ℕ
selection_seen seen = (seen.algorithm, seen.pcrs)
