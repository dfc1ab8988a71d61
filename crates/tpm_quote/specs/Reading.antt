-- What the reader of quotes returns.
use Rattle.std.specs.Prelude.{ℕ, ◌≡◌, List, Result, Ok, Err, IfOk, IfErr}
use Rattle.std.specs.Result.{result_map_both}
use Rattle.tpm_quote.specs.Fault.{HasFault}
use Rattle.tpm_quote.specs.Quote.{Quote, IsQuote, quote_bytes}
use Rattle.tpm_quote.specs.declared.quote_error.QuoteError.{QuoteError}

-- What bytes are: this quote, whole and alone; or none, because of this fault.
abbrev pub IsVerdict : List ℕ → Result Quote QuoteError → Type 0
IsVerdict bytes (Ok quote) = IsQuote quote × (bytes ≡ quote_bytes quote)
IsVerdict bytes (Err error) = HasFault bytes error

-- At Ok, the quote that the bytes are; at Err, their fault. They are no other quote, and have no other fault.
pub record ReadsQuote {V : Type 0} (quote_of : V → Quote) (bytes : List ℕ) (read : Result V QuoteError) : Type 0 where
  pub ok : IfOk read (λ view. IsQuote (quote_of view) × (bytes ≡ quote_bytes (quote_of view)))
  pub err : IfErr read (HasFault bytes)
  pub only : (other : Result Quote QuoteError) → IsVerdict bytes other
      → other ≡ result_map_both quote_of (λ error. error) read
