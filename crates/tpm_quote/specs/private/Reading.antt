-- How a quote is read: the fields that bytes begin with, each with the bytes after it, or the error of the first that
-- they don't have.
use Rattle.std.specs.Prelude.{ℕ, zero, suc, ◌==◌, Bool, List, [], ◌∷◌, length, take, drop, Result, Ok, Err, nat_lt, slice_index, if◌then◌else◌}
use Rattle.std.specs.Int.{Width, w8, w16, w32, w64, byte_len, from_be_bytes}
use Rattle.std.specs.Result.{result_map_both, result_unwrap_or}
use Rattle.tpm_quote.specs.PcrSelection.{PcrSelection}
use Rattle.tpm_quote.specs.Quote.{ClockInfo, Quote, attest_quote, generated_value}
use Rattle.tpm_quote.specs.declared.quote_error.QuoteError.{QuoteError}
use Rattle.tpm_quote.specs.declared.quote_error.QuoteError.TheVariants.{NotGenerated, NotQuote, Safe, Selection, TooShort, LeftOver}

-- A field and the bytes after it, or an error.
abbrev pub Split : Type 0 → Type 0
Split A = Result (A × List ℕ) QuoteError

-- The step after a field, if the field is there.
infixl 10 ◌>>=◌
abbrev pub ◌>>=◌ : {A B : Type 0} → Result A QuoteError → (A → Result B QuoteError) → Result B QuoteError
(Ok field) >>= step = step field
(Err error) >>= step = Err error

-- A number of this width.
abbrev pub split_number : Width → List ℕ → Split ℕ
split_number width bytes =
    if nat_lt (length bytes) (byte_len width) then Err TooShort
    else Ok (from_be_bytes width (take (byte_len width) bytes), drop (byte_len width) bytes)

-- This many bytes.
abbrev pub split_bytes : ℕ → List ℕ → Split (List ℕ)
split_bytes n bytes = if nat_lt (length bytes) n then Err TooShort else Ok (take n bytes, drop n bytes)

-- Bytes with their size before them.
unfoldable pub split_sized : List ℕ → Split (List ℕ)
split_sized bytes = do
  size ← split_number w16 bytes
  split_bytes size.0 size.1

-- A TPMI_YES_NO: a byte that is 0 or 1.
unfoldable pub split_yes_no : List ℕ → Split Bool
split_yes_no bytes = do
  byte ← split_number w8 bytes >>= λ byte. if nat_lt 1 byte.0 then Err (Safe byte.0) else Ok byte
  Ok (byte.0 == 1, byte.1)

unfoldable pub split_clock_info : List ℕ → Split ClockInfo
split_clock_info bytes = do
  clock ← split_number w64 bytes
  reset_count ← split_number w32 clock.1
  restart_count ← split_number w32 reset_count.1
  safe ← split_yes_no restart_count.1
  Ok (
    record {
      clock = clock.0;
      reset_count = reset_count.0;
      restart_count = restart_count.0;
      safe = safe.0;
    },
    safe.1,
  )

-- The size of a bitmap, and the bitmap, if it is that of a PC.
unfoldable pub split_size : List ℕ → Split ℕ
split_size bytes = split_number w8 bytes >>= λ size. if nat_lt 4 size.0 then Err Selection else Ok size

unfoldable pub split_bits : ℕ → List ℕ → Split (List ℕ)
split_bits size bytes =
    split_bytes size bytes >>= λ bits. if nat_lt 0 (slice_index bits.0 3) then Err Selection else Ok bits

unfoldable pub split_bitmap : List ℕ → Split (List ℕ)
split_bitmap bytes = do
  size ← split_size bytes
  split_bits size.0 size.1

unfoldable pub split_selection : List ℕ → Split PcrSelection
split_selection bytes = do
  algorithm ← split_number w16 bytes
  bitmap ← split_bitmap algorithm.1
  Ok (record { algorithm = algorithm.0; bitmap = bitmap.0 }, bitmap.1)

-- This many selections.
unfoldable pub split_selections : ℕ → List ℕ → Split (List PcrSelection)
split_selections zero bytes = Ok ([], bytes)
split_selections (suc n) bytes = do
  selection ← split_selection bytes
  selections ← split_selections n selection.1
  Ok (selection.0 ∷ selections.0, selections.1)

-- The bytes after them, and the selections alone.
unfoldable pub after_selections : ℕ → List ℕ → Result (List ℕ) QuoteError
after_selections n bytes = result_map_both (λ split. split.1) (λ error. error) (split_selections n bytes)

unfoldable pub selections_in : ℕ → List ℕ → List PcrSelection
selections_in n bytes = (result_unwrap_or (split_selections n bytes) ([], bytes)).0

-- Selections with their number before them.
unfoldable pub split_counted : List ℕ → Split (List PcrSelection)
split_counted bytes = do
  count ← split_number w32 bytes
  split_selections count.0 count.1

-- The bytes after the magic and the type.
unfoldable pub after_type : ℕ × List ℕ → Result (List ℕ) QuoteError
after_type kind = if kind.0 == attest_quote then Ok kind.1 else Err (NotQuote kind.0)

unfoldable pub after_magic : ℕ × List ℕ → Result (List ℕ) QuoteError
after_magic magic =
    if magic.0 == generated_value then (split_number w16 magic.1 >>= after_type) else Err NotGenerated

unfoldable pub after_header : List ℕ → Result (List ℕ) QuoteError
after_header bytes = split_number w32 bytes >>= after_magic

-- The quote with these fields.
abbrev pub quote_given : List ℕ → List ℕ → ClockInfo → ℕ → List PcrSelection → List ℕ → Quote
quote_given qualified_signer extra_data clock_info firmware_version pcr_selections pcr_digest = record {
  qualified_signer = qualified_signer;
  extra_data = extra_data;
  clock_info = clock_info;
  firmware_version = firmware_version;
  pcr_selections = pcr_selections;
  pcr_digest = pcr_digest;
}

-- The quote whose fields follow the magic and the type.
unfoldable pub split_body : List ℕ → Split Quote
split_body bytes = do
  qualified_signer ← split_sized bytes
  extra_data ← split_sized qualified_signer.1
  clock_info ← split_clock_info extra_data.1
  firmware_version ← split_number w64 clock_info.1
  pcr_selections ← split_counted firmware_version.1
  pcr_digest ← split_sized pcr_selections.1
  Ok (quote_given qualified_signer.0 extra_data.0 clock_info.0 firmware_version.0 pcr_selections.0 pcr_digest.0, pcr_digest.1)

-- The quote, if no bytes follow it.
unfoldable pub alone : Quote × List ℕ → Result Quote QuoteError
alone split = if length split.1 == 0 then Ok split.0 else Err LeftOver

-- The quote that the bytes are.
unfoldable pub read_quote : List ℕ → Result Quote QuoteError
read_quote bytes = do
  body ← after_header bytes
  quote ← split_body body
  alone quote
