-- The quote that bytes are is the one that is read, and bytes of which none is read are none.
use Rattle.std.proofs.Common.{◌≡◌, ℕ, List, ◌∙◌, ap, sym}
use Rattle.std.specs.Prelude.{Some, Result, Ok, Err}
use Rattle.std.specs.Result.{result_map_both}
use Rattle.pcr_replay.specs.declared.bank.Bank.{Bank}
use Rattle.tpm_quote.specs.Quote.{Quote}
use Rattle.tpm_quote.specs.Reading.{ReadsQuote}
use Rattle.tpm_quote.specs.Views.{quote_of}
use Rattle.tpm_quote.specs.declared.quote.Quote.{Quote as View}
use Rattle.tpm_quote.specs.declared.quote_error.QuoteError.{QuoteError}
use Rattle.uefi_c.specs.Quote.{AreQuote, HasQuote}

pub none_read : (bytes : List ℕ) (read : Result View QuoteError) (error : QuoteError) → ReadsQuote quote_of bytes read → read ≡ Err error
    → ¬ HasQuote bytes
none_read bytes read error reads failed has =
    let is : Result Quote QuoteError = Ok has.0 in
    let same : is ≡ Err error = reads.only is has.1 ∙ ap (result_map_both quote_of (λ error. error)) failed in
    absurd cc

ok_is : (one other : Quote) → (let it : Result Quote QuoteError = Ok one in it ≡ Ok other) → one ≡ other
ok_is one other is = cc

pub one_read : (bytes : List ℕ) (read : Result View QuoteError) (view : View) → ReadsQuote quote_of bytes read → read ≡ Ok view
    → (quote : Quote) → AreQuote bytes quote → quote_of view ≡ quote
one_read bytes read view reads is quote are =
    sym (ok_is quote (quote_of view) (reads.only (Ok quote) are ∙ ap (result_map_both quote_of (λ error. error)) is))

pub some_hash : (one other : Bank) → Some one ≡ Some other → one ≡ other
some_hash one other is = cc
