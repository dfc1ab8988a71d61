-- The text that Display writes for an error.
use Rattle.std.specs.Prelude.{ℕ, List, ◌++◌, codes, false}
use Rattle.std.specs.Fmt.{decimal, digits}
use Rattle.tpm_quote.specs.declared.quote_error.QuoteError.{QuoteError}
use Rattle.tpm_quote.specs.declared.quote_error.QuoteError.TheVariants.{NotGenerated, NotQuote, Safe, Selection, TooShort, LeftOver}

abbrev pub quote_error_text : QuoteError → List ℕ
quote_error_text NotGenerated = codes "no TPM_GENERATED_VALUE"
quote_error_text (NotQuote kind) = codes "an attestation of type 0x" ++ digits 16 false kind
quote_error_text (Safe value) = codes "the byte `safe` is " ++ decimal value
quote_error_text Selection = codes "a selection of PCRs that a PC doesn't have"
quote_error_text TooShort = codes "too few bytes"
quote_error_text LeftOver = codes "bytes after the quote"
