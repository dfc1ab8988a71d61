-- Whether a log leads to the digest in a quote.
use Rattle.std.specs.Prelude.{ℕ, ◌≡◌, ◌&&◌, Bool, true, false, List, map, Option, None, Some, Result, Ok, Err, if◌then◌else◌}
use Rattle.std.specs.List.{Any, list_all}
use Rattle.std.specs.Option.{option_map}
use Rattle.std.specs.Result.{result_map_both}
use Rattle.std.specs.Str.{bytes_eq}
use Rattle.tpm_quote.specs.Quote.{Quote}
use Rattle.tpm_quote.specs.Views.{quote_of}
use Rattle.uefi_tcg.specs.Entries.{Entry}
use Rattle.pcr_replay.specs.BankReplays.{BankOutcomes, replayed}
use Rattle.pcr_replay.specs.Quotes.{digest_at, quote_digest, quoted_banks}
use Rattle.pcr_replay.specs.Views.{value_of}
use Rattle.pcr_replay.specs.declared.bank.Bank.{Bank}
use Rattle.pcr_replay.specs.declared.quote.NoQuoteDigest.{NoQuoteDigest}
use Rattle.pcr_replay.specs.declared.start.Start.{Start}
use Rattle.uefi_audits.specs.KnownStart.{assumed_start, is_stated, known_start}
use Rattle.uefi_audits.specs.declared.known_start.KnownStart.{KnownStart}
use Rattle.uefi_audits.specs.declared.verify.quote.QuoteVerdict.{QuoteVerdict}
use Rattle.uefi_audits.specs.declared.verify.quote.ReceivedQuote.{ReceivedQuote}
use Rattle.uefi_audits.specs.verify.Covered.{is_covered}
use Rattle.uefi_audits.specs.verify.Verdict.{starts}

-- A quote, the hash function of its digest, and the nonce that it was asked for with; it may have any if none is there.
pub record Received : Type 0 where
  pub quote : Quote
  pub hash : Bank
  pub nonce : Option (List ℕ)

-- Whether the quote has that nonce.
abbrev pub is_nonce : Option (List ℕ) → List ℕ → Bool
is_nonce None quoted = true
is_nonce (Some asked) quoted = bytes_eq quoted asked

abbrev pub has_its_nonce : Received → Bool
has_its_nonce received = is_nonce received.nonce received.quote.extra_data

-- Whether a digest is this one.
abbrev pub is_digest : List ℕ → Result (List ℕ) NoQuoteDigest → Bool
is_digest digest (Ok found) = bytes_eq found digest
is_digest digest (Err why) = false

-- What a quote is compared with: how PCR 0 starts, the digest, and whether it is that of the quote.
pub record QuoteJudgement : Type 0 where
  pub received : Received
  pub start : KnownStart
  pub digest : Result (List ℕ) NoQuoteDigest
  pub digest_agrees : Bool

abbrev pub judged_by : List BankOutcomes → Received → KnownStart → QuoteJudgement
judged_by replays received start = record {
  received = received;
  start = start;
  digest = quote_digest received.hash replays received.quote;
  digest_agrees = is_digest received.quote.pcr_digest (quote_digest received.hash replays received.quote);
}

-- With what the events of a log lead to in the banks of the quote, in a TPM that started so.
abbrev pub quoted_replays : Start → List Entry → Quote → List BankOutcomes
quoted_replays start entries quote = map (replayed start entries) (quoted_banks entries quote)

abbrev pub judged_at : List Entry → Received → KnownStart → QuoteJudgement
judged_at entries received start = judged_by (quoted_replays start.start entries received.quote) received start

-- The digests agree, and the quote has the nonce that it was asked for with; and it covers each of these PCRs.
abbrev pub is_met : QuoteJudgement → Bool
is_met judgement = judgement.digest_agrees && has_its_nonce judgement.received

abbrev pub covers : QuoteJudgement → Bank → List ℕ → Bool
covers judgement bank pcrs = list_all (is_covered judgement.received.quote bank) pcrs

-- Of two, the one whose digest agrees, and the first if neither or both do.
abbrev pub agreeing : QuoteJudgement → QuoteJudgement → QuoteJudgement
agreeing one other = if one.digest_agrees then one else if other.digest_agrees then other else one

-- The verdict on a quote, by the locality that the caller states, if any, and the events of a log. If none is stated, starts at
-- 0, 3 and 4 are tried.
abbrev pub tried : List Entry → Received → QuoteJudgement
tried entries received =
    agreeing (agreeing (judged_at entries received (assumed_start 0)) (judged_at entries received (assumed_start 3)))
    (judged_at entries received (assumed_start 4))

unfoldable pub quote_verdict : Option ℕ → List Entry → Received → QuoteJudgement
quote_verdict locality entries received =
    if is_stated locality entries then judged_at entries received (known_start locality entries) else tried entries received

-- What values of the code stand for.
abbrev pub received_of : ReceivedQuote → Received
received_of received = record {
  quote = quote_of received.quote;
  hash = received.hash;
  nonce = option_map (λ nonce. nonce.now) received.nonce;
}

abbrev pub quote_judgement_of : QuoteVerdict → QuoteJudgement
quote_judgement_of verdict = record {
  received = received_of verdict.received;
  start = verdict.start;
  digest = result_map_both value_of (λ why. why) verdict.digest;
  digest_agrees = verdict.digest_agrees;
}

-- At one of the starts that are tried, the digest in the quote is that of the PCRs that the log leads to.
abbrev pub QuoteAgrees : Option ℕ → List Entry → Received → Type 0
QuoteAgrees locality entries received =
    Any (λ start. digest_at received.hash entries received.quote start ≡ Ok received.quote.pcr_digest) (starts locality entries)
