-- What holds of all quotes.
use Rattle.std.specs.Prelude.{ℕ, ◌≡◌, ◌≤◌, ◌↔◌, List, length, Contains, Result}
use Rattle.std.specs.List.Sorted.{IsStrictlyIncreasing}
use Rattle.uefi_base.specs.LittleEndian.{AreBytes}
use Rattle.tpm_quote.specs.PcrSelection.{PcrSelection, IsPcrSelection, IsSelected, SelectsAbove23, byte_of_pcr_24, selected_pcrs}
use Rattle.tpm_quote.specs.Quote.{Quote, IsQuote, quote_bytes}
use Rattle.tpm_quote.specs.Reading.{IsVerdict}
use Rattle.tpm_quote.specs.declared.quote_error.QuoteError.{QuoteError}

-- Bytes are at most one quote.
abbrev pub OneQuote : Type 0
OneQuote = (quote other : Quote) → IsQuote quote → IsQuote other → quote_bytes quote ≡ quote_bytes other → quote ≡ other

-- Bytes have this verdict, and no other.
pub record HasOneVerdict (bytes : List ℕ) : Type 0 where
  pub verdict : Result Quote QuoteError
  pub is : IsVerdict bytes verdict
  pub only : (other : Result Quote QuoteError) → IsVerdict bytes other → other ≡ verdict

-- All bytes have: they are one quote and have no fault, or are none and have one fault.
abbrev pub OneVerdict : Type 0
OneVerdict = (bytes : List ℕ) → AreBytes bytes → HasOneVerdict bytes

-- The PCRs of a selection are those that it selects, and they ascend.
pub record HasItsPcrs (selection : PcrSelection) : Type 0 where
  pub each : (pcr : ℕ) → Contains (selected_pcrs selection) pcr ↔ IsSelected selection pcr
  pub ascending : IsStrictlyIncreasing (selected_pcrs selection)

-- A bitmap of at most four bytes selects no PCR above 23 exactly if its fourth byte is zero.
abbrev pub FourthByteZero : Type 0
FourthByteZero = (selection : PcrSelection) → AreBytes selection.bitmap → length selection.bitmap ≤ 4
    → (byte_of_pcr_24 selection ≡ 0) ↔ ¬ SelectsAbove23 selection

pub record PcrsOfSelection : Type 0 where
  pub pcrs : (selection : PcrSelection) → IsPcrSelection selection → HasItsPcrs selection
  pub above_23 : FourthByteZero
