-- The quote in a file, as it is asked for.
use Rattle.std.specs.Prelude.{ℕ, ◌≡◌, ◌≢◌, ◌==◌, ◌&&◌, ◌||◌, not, Bool, true, false, List, [], ◌++◌, codes, length, Option, None, Some, is_some, Result, Ok, Err}
use Rattle.std.specs.List.{list_all}
use Rattle.std.specs.Fmt.{decimal}
use Rattle.hex.specs.Hex.{decode_of}
use Rattle.tpm_quote.specs.Quote.{Quote}
use Rattle.tpm_quote.specs.Reading.{IsVerdict}
use Rattle.tpm_quote.specs.Texts.{quote_error_text}
use Rattle.pcr_replay.specs.Banks.{bank_of_size}
use Rattle.pcr_replay.specs.declared.bank.Bank.{Bank}
use Rattle.uefi_audits.specs.verify.Quote.{Received}
use Rattle.uefi_audits.specs.verify.Selection.{AreSelections}
use Rattle.uefi_audits.specs.declared.verify.selection.PcrSelection.{PcrSelection}
use Rattle.audit_text.specs.declared.json.unjudged.NotJudged.{NotJudged}
use Rattle.audit_text.specs.declared.json.unjudged.NotJudged.TheVariants as why
use Rattle.uefi_audit.specs.declared.failure.Status.{Status}
use Rattle.uefi_audit.specs.declared.failure.Status.TheVariants.{Unjudged, Unread}
use Rattle.uefi_audit.specs.declared.quote.NotReceived.{NotReceived}
use Rattle.uefi_audit.specs.declared.quote.NotReceived.TheVariants.{Malformed, NoNonce, NoHash}
use Rattle.uefi_audit.specs.declared.request.AskedQuote.{AskedQuote}

-- The nonce by the hex digits of `--nonce`: the bytes that they are, of which there is one at least; and none without it.
abbrev pub IsNonce : Option (List ℕ) → Option (List ℕ) → Type 0
IsNonce None nonce = nonce ≡ None
IsNonce (Some digits) None = ⊥
IsNonce (Some digits) (Some bytes) = (decode_of digits ≡ Ok bytes) × (bytes ≢ [])

-- The PCRs that `--pcrs` asks for: those that its text names, and all without it.
abbrev pub AsksFor : Option (List ℕ) → List PcrSelection → Type 0
AsksFor None selections = selections ≡ []
AsksFor (Some text) selections = AreSelections text selections

-- Each selection names a bank, so that whoever states the PCRs doesn't choose it.
abbrev pub name_banks : List PcrSelection → Bool
name_banks selections = list_all (λ selection. is_some selection.bank) selections

-- What has to be covered is said: PCRs of banks, or any by `--any-pcrs`.
abbrev pub is_coverage_stated : Bool → List PcrSelection → Bool
is_coverage_stated any_pcrs selections = (any_pcrs || not (length selections == 0)) && name_banks selections

-- A nonce is stated, or any will do.
abbrev pub is_nonce_stated : AskedQuote → Option (List ℕ) → Bool
is_nonce_stated asked given = is_some given || asked.any_nonce

-- The hash function of a digest of so many bytes: the one that is named, or else that of its length.
abbrev pub hash_by : Option Bank → ℕ → Option Bank
hash_by (Some hash) size = Some hash
hash_by None size = bank_of_size size

-- The quote that a file's bytes are, with this nonce; or why there is none: the bytes are no quote, no nonce is stated, or there is no hash function.
abbrev pub Receives : List ℕ → AskedQuote → Option (List ℕ) → Result Received NotReceived → Type 0
Receives bytes asked given (Ok received) =
    IsVerdict bytes (Ok received.quote) × (received.nonce ≡ given) × (is_nonce_stated asked given ≡ true)
    × (hash_by asked.hash (length received.quote.pcr_digest) ≡ Some received.hash)
Receives bytes asked given (Err (Malformed error)) = IsVerdict bytes (Err error)
Receives bytes asked given (Err NoNonce) =
    (quote : Quote) × IsVerdict bytes (Ok quote) × (is_nonce_stated asked given ≡ false)
Receives bytes asked given (Err (NoHash size)) =
    (quote : Quote) × IsVerdict bytes (Ok quote) × (is_nonce_stated asked given ≡ true)
    × (length quote.pcr_digest ≡ size) × (hash_by asked.hash size ≡ None)

-- The status that follows, the reason in JSON, and what standard error is told.
abbrev pub status_without : NotReceived → Status
status_without (Malformed error) = Unread
status_without NoNonce = Unjudged
status_without (NoHash size) = Unjudged

abbrev pub reason_without : NotReceived → NotJudged
reason_without (Malformed error) = why.MalformedQuote
reason_without NoNonce = why.NoNonce
reason_without (NoHash size) = why.UnknownHash

abbrev pub not_received_text : NotReceived → List ℕ
not_received_text (Malformed error) = quote_error_text error
not_received_text NoNonce = codes "the nonce isn't stated (--nonce, or --any-nonce)"
not_received_text (NoHash size) =
    codes "no hash function here has digests of " ++ decimal size ++ codes " bytes (--quote-hash)"
