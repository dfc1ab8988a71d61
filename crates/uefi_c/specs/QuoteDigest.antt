-- The digest of the PCRs that a log leads to, over the PCRs that a quote selects, as a call gives it.
use Rattle.std.specs.Prelude.{ℕ, ◌≡◌, ◌==◌, ◌⊎◌, List, length, take, Some, Result, Ok, Err, if◌then◌else◌}
use Rattle.tpm_quote.specs.Quote.{Quote}
use Rattle.pcr_replay.specs.Banks.{algorithm_of, bank_of_size}
use Rattle.pcr_replay.specs.declared.bank.Bank.{Bank}
use Rattle.pcr_replay.specs.declared.quote.NoQuoteDigest.{NoQuoteDigest}
use Rattle.pcr_replay.specs.declared.quote.NoQuoteDigest.TheVariants.{NoBank, Undetermined}
use Rattle.pcr_replay.specs.declared.fault.Undetermined.{Undetermined as EventOf}
use Rattle.uefi_c.specs.Quote.{AreQuote}
use Rattle.uefi_c.specs.Replay.{IsPcrStatus, fault_of}
use Rattle.uefi_c.specs.Status.{no_bank, ok}
use Rattle.uefi_c.specs.declared.quote_digest.UefiQuoteDigest.{UefiQuoteDigest}

-- The hash function of this algorithm; or for 0, which is none, the first one whose digests have the length of the quote's.
abbrev pub IsHash : ℕ → Quote → Bank → Type 0
IsHash algorithm quote hash =
    (algorithm_of hash ≡ algorithm) ⊎ ((algorithm ≡ 0) × (bank_of_size (length quote.pcr_digest) ≡ Some hash))

-- The bytes are a quote whose digest has such a hash function.
abbrev pub HasHash : List ℕ → ℕ → Type 0
HasHash bytes algorithm = (quote : Quote) × AreQuote bytes quote × ((hash : Bank) × IsHash algorithm quote hash)

-- The statuses of a digest.
abbrev pub IsDigestStatus : ℕ → Type 0
IsDigestStatus status = (status ≡ no_bank) ⊎ IsPcrStatus status

-- The event by which a PCR is undetermined.
abbrev pub event_seen : UefiQuoteDigest → EventOf
event_seen seen = record { index = seen.index; offset = seen.offset; fault = fault_of seen.status }

-- What a call gave: on success a digest, else why there is none.
abbrev pub digest_seen : UefiQuoteDigest → Result (List ℕ) NoQuoteDigest
digest_seen seen =
    if seen.status == ok then Ok (take seen.size seen.value)
    else if seen.status == no_bank then Err (NoBank (record { 0 = seen.algorithm }))
    else Err (Undetermined (record { 0 = seen.algorithm }) (record { 0 = seen.pcr_index }) (event_seen seen))
