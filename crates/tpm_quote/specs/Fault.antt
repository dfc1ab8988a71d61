-- Why bytes are no quote. They are read from the first to the last, field by field, and a field is judged once it is
-- whole: the first fault decides.
use Rattle.std.specs.Prelude.{ℕ, ◌≡◌, ◌≢◌, ◌<◌, ◌≤◌, ◌^◌, ◌⊎◌, List, [], ◌∷◌, ◌++◌, length}
use Rattle.std.specs.List.{flat_map}
use Rattle.uefi_base.specs.Prefix.{IsPrefix}
use Rattle.tpm_quote.specs.BigEndian.{u16_bytes, u32_bytes}
use Rattle.tpm_quote.specs.PcrSelection.{PcrSelection, byte_of_pcr_24, selection_bytes}
use Rattle.tpm_quote.specs.Quote.{Quote, IsQuote, attest_quote, generated_value, before_safe, before_selections, quote_bytes}
use Rattle.tpm_quote.specs.declared.quote_error.QuoteError.{QuoteError}
use Rattle.tpm_quote.specs.declared.quote_error.QuoteError.TheVariants.{NotGenerated, NotQuote, Safe, Selection, TooShort, LeftOver}

-- The bytes begin with a number that isn't the magic.
pub record HasOtherMagic (bytes : List ℕ) : Type 0 where
  pub magic : ℕ
  pub fits : magic < 2 ^ 32
  pub other : magic ≢ generated_value
  pub first : IsPrefix (u32_bytes magic) bytes

-- They begin with the magic and this type, which isn't that of a quote.
pub record HasOtherType (kind : ℕ) (bytes : List ℕ) : Type 0 where
  pub fits : kind < 2 ^ 16
  pub other : kind ≢ attest_quote
  pub first : IsPrefix (u32_bytes generated_value ++ u16_bytes kind) bytes

-- They begin as a quote does, but their byte `safe` is this, which is neither 0 nor 1.
pub record HasOtherSafe (value : ℕ) (bytes : List ℕ) : Type 0 where
  pub quote : Quote
  pub is_quote : IsQuote quote
  pub fits : value < 2 ^ 8
  pub other : 1 < value
  pub first : IsPrefix (before_safe quote ++ value ∷ []) bytes

-- They begin with an algorithm and the size of a bitmap, which is more than four bytes.
pub record HasLongBitmap (bytes : List ℕ) : Type 0 where
  pub algorithm : ℕ
  pub size : ℕ
  pub algorithm_fits : algorithm < 2 ^ 16
  pub size_fits : size < 2 ^ 8
  pub long : 4 < size
  pub first : IsPrefix (u16_bytes algorithm ++ size ∷ []) bytes

-- They begin with a selection of a PCR above 23: its fourth byte isn't zero.
pub record HasPcrAbove23 (bytes : List ℕ) : Type 0 where
  pub selection : PcrSelection
  pub algorithm : selection.algorithm < 2 ^ 16
  pub short : length selection.bitmap ≤ 4
  pub above : 0 < byte_of_pcr_24 selection
  pub first : IsPrefix (selection_bytes selection) bytes

-- They begin as a quote does, with a number of selections. Fewer selections follow, and then one of these.
pub record HasOtherSelection (bytes : List ℕ) : Type 0 where
  pub quote : Quote
  pub count : ℕ
  pub rest : List ℕ
  pub is_quote : IsQuote quote
  pub fits : count < 2 ^ 32
  pub more : length quote.pcr_selections < count
  pub first : bytes ≡ before_selections quote
      ++ (u32_bytes count ++ (flat_map selection_bytes quote.pcr_selections ++ rest))
  pub other : HasLongBitmap rest ⊎ HasPcrAbove23 rest

-- With more bytes after them, they are those of such a value.
pub record IsCut {A : Type 0} (Is : A → Type 0) (encoding : A → List ℕ) (bytes : List ℕ) : Type 0 where
  pub value : A
  pub is : Is value
  pub more : List ℕ
  pub some : more ≢ []
  pub whole : bytes ++ more ≡ encoding value

-- They end within the magic or the type, whatever these are, or are those of a quote without its end.
abbrev pub AreTooShort : List ℕ → Type 0
AreTooShort bytes = (length bytes < 4) ⊎ (IsPrefix (u32_bytes generated_value) bytes × (length bytes < 6))
    ⊎ IsCut IsQuote quote_bytes bytes

-- They are those of a quote and others.
pub record HasMore (bytes : List ℕ) : Type 0 where
  pub quote : Quote
  pub is_quote : IsQuote quote
  pub more : List ℕ
  pub some : more ≢ []
  pub whole : bytes ≡ quote_bytes quote ++ more

-- The bytes have this fault.
abbrev pub HasFault : List ℕ → QuoteError → Type 0
HasFault bytes NotGenerated = HasOtherMagic bytes
HasFault bytes (NotQuote kind) = HasOtherType kind bytes
HasFault bytes (Safe value) = HasOtherSafe value bytes
HasFault bytes Selection = HasOtherSelection bytes
HasFault bytes TooShort = AreTooShort bytes
HasFault bytes LeftOver = HasMore bytes
